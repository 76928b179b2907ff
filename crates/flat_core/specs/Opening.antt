-- What is fixed before a run: the machine, the calls, the guest code, the bundles that come in, and the secret words.
use Rattle.std.specs.Prelude.{◌≡◌, ℕ, List, map, Option, Result, Ok, Err, Bool, ◌==◌, ◌||◌, if◌then◌else◌, option_map}
use Rattle.td_words.specs.declared.names.HeaderField.{HeaderField}
use Rattle.td_words.specs.declared.machines.Machine.{Machine}
use Rattle.td_words.specs.declared.calls.Call.{Call}
use Rattle.td_words.specs.declared.calls.GuestOp.{GuestOp}
use Rattle.td_words.specs.declared.headers.Header.{Header}
use Rattle.flat_core.specs.World.{ClearHeader, Made}

-- the header of bytes 0 to 47
abbrev pub clear_header : Header → ClearHeader
clear_header h = record {
  size = h.size;
  version = h.version;
  stream = h.stream;
  kind = h.kind;
  reserved = h.reserved;
  counter = h.counter;
  epoch = h.epoch;
  iv = h.iv;
  session = h.session;
  index = h.index;
  info = h.info;
  gpa = h.gpa;
  total = h.total;
}

-- a bundle that comes in: its header or the first fault of its format, whether its tag is that of its bytes (the
-- verdict), and the words that it opens to
pub record Incoming : Type 0 where
  pub header : Result ClearHeader HeaderField
  pub opens : Bool
  pub payload : List ℕ

-- an opening: what a script and the named inputs say
pub record Opening : Type 0 where
  pub machine : Machine
  pub codes : ℕ → ℕ → List GuestOp  -- by TDR page and index of the virtual processor
  pub calls : List (List Call)  -- of each logical processor, in number order
  pub bundles : ℕ → Option Incoming  -- by slot
  pub secrets : ℕ → ℕ  -- 512 words

-- Payloads of TD state, VCPU state and memory bundles are private words.
abbrev pub is_private_kind : ℕ → Bool
is_private_kind k = k == 1 || (k == 2 || k == 3)

-- the words that anyone may know of a payload; its length stays
abbrev pub blind_words : Result ClearHeader HeaderField → List ℕ → List ℕ
blind_words (Ok h) ws = if is_private_kind h.kind then map (λ x. 0) ws else ws
blind_words (Err f) ws = ws

abbrev pub blind_bundle : Incoming → Incoming
blind_bundle b = record b { payload = blind_words b.header b.payload }

-- the opening with every private word 0
abbrev pub blind : Opening → Opening
blind o = record o { bundles = λ slot. option_map blind_bundle (o.bundles slot); secrets = λ i. 0 }

-- what anyone can read of a bundle that was made: its slot, its header, its length, and a payload that isn't private
abbrev pub public_bundle : Made → Made
public_bundle b = record b { payload = blind_words (Ok b.header) b.payload }

-- two openings that differ in secret words and in payloads of private bundles alone
pub record Agree (o q : Opening) : Type 0 where
  pub machine : o.machine ≡ q.machine
  pub codes : (t i : ℕ) → o.codes t i ≡ q.codes t i
  pub calls : o.calls ≡ q.calls
  pub bundles : (slot : ℕ) → option_map blind_bundle (o.bundles slot) ≡ option_map blind_bundle (q.bundles slot)
