-- What contracts see of structs that hold lists.
use Rattle.std.specs.Prelude.{ℕ, List}
use Rattle.td_words.specs.declared.calls.GuestOp.{GuestOp}

-- the operations of VCPU `index` of the TD whose TDR is page `tdr`
pub record CodeSeen : Type 0 where
  pub tdr : ℕ
  pub index : ℕ
  pub ops : List GuestOp

-- a bundle's bytes at its slot
pub record BundleSeen : Type 0 where
  pub slot : ℕ
  pub bytes : List ℕ
