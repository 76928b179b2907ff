-- A bundle as it is sealed (TD Migration Architecture, "Migration Bundles"; SP 800-38D).
use Rattle.std.specs.Prelude.{ℕ, List, [], ◌∷◌, ◌++◌, ◌==◌, if◌then◌else◌}
use Rattle.byteorder.specs.Endian.{little_bytes}
use Rattle.td_words.specs.declared.headers.Header.{Header}
use Rattle.td_words.specs.Seen.{BundleSeen}
use Rattle.flat_core.specs.World.{ClearHeader, Made}
use Rattle.flat_core.specs.Digests.{digest_bytes as word_bytes}
use Rattle.aes_block.specs.Planes.{HasKey}
use Rattle.gcm_seal.specs.Gcm.{mixed, tag_bytes}
use Rattle.gcm_seal.specs.declared.keys.Keys.{Keys}
use Rattle.bundle_format.specs.Headers.{head_bytes, header_bytes}

-- a header with that tag
abbrev pub with_tag : List ℕ → ClearHeader → Header
with_tag tag h = record {
  size = h.size;
  version = h.version;
  stream = h.stream;
  kind = h.kind;
  reserved = h.reserved;
  counter = h.counter;
  epoch = h.epoch;
  iv = h.iv;
  session = h.session;
  index = h.index;
  info = h.info;
  gpa = h.gpa;
  total = h.total;
  tag = tag;
}

-- the additional bytes, which the tag authenticates beside the sealed payload: bytes 0 to 47
abbrev pub additional_bytes : ClearHeader → List ℕ
additional_bytes h = head_bytes (with_tag [] h)

-- the IV of 12 bytes: the stream in 1, 0, the session in 2, and the iv field in 8, lowest byte first
abbrev pub iv_bytes : ClearHeader → List ℕ
iv_bytes h = little_bytes 1 h.stream ++ (0 ∷ (little_bytes 2 h.session ++ little_bytes 8 h.iv))

-- the key: that from source to destination, and that back for an abort token, kind 6
abbrev pub key_of : (forward backward : List ℕ) → ClearHeader → List ℕ
key_of forward backward h = if h.kind == 6 then backward else forward

-- the payload's bytes, sealed; each word has 8, the lowest first
abbrev pub sealed_payload : (forward backward : List ℕ) → Made → List ℕ
sealed_payload forward backward m = mixed (key_of forward backward m.header) (iv_bytes m.header) (word_bytes m.payload)

-- the tag of 16 bytes
abbrev pub tag_of : (forward backward : List ℕ) → Made → List ℕ
tag_of forward backward m =
    tag_bytes (key_of forward backward m.header) (iv_bytes m.header) (additional_bytes m.header) (sealed_payload forward backward m)

-- a bundle's bytes: its header, with the tag, and its sealed payload
abbrev pub sealed_bytes : (forward backward : List ℕ) → Made → List ℕ
sealed_bytes forward backward m = header_bytes (with_tag (tag_of forward backward m) m.header) ++ sealed_payload forward backward m

-- the same in its slot
abbrev pub sealed : (forward backward : List ℕ) → Made → BundleSeen
sealed forward backward m = record { slot = m.slot; bytes = sealed_bytes forward backward m }

-- the two keys, expanded, are these, of 32 bytes each
abbrev pub HoldKeys : Keys → (forward backward : List ℕ) → Type 0
HoldKeys keys forward backward = HasKey keys.forward forward × HasKey keys.backward backward
