-- A bundle as it comes in (TD Migration Architecture, "Migration Bundles"; SP 800-38D, "Algorithm for the Authenticated
-- Decryption Function").
use Rattle.std.specs.Prelude.{◌≡◌, ℕ, ◌*◌, ◌/◌, List, [], length, map, drop, Result, Ok, Err, Option, Some, None, Bool, true, false, if◌then◌else◌}
use Rattle.std.specs.Global.{Vec}
use Rattle.std.specs.List.{range_with_len}
use Rattle.std.specs.Str.{bytes_eq}
use Rattle.byteorder.specs.Endian.{little_number}
use Rattle.td_words.specs.declared.headers.Header.{Header}
use Rattle.td_words.specs.declared.names.HeaderField.{HeaderField}
use Rattle.flat_core.specs.World.{ClearHeader}
use Rattle.flat_core.specs.Opening.{Incoming, clear_header}
use Rattle.gcm_seal.specs.Gcm.{mixed, tag_bytes}
use Rattle.bundle_format.specs.Headers.{bundle_in}
use Rattle.bundle_texts.specs.Sealed.{additional_bytes, iv_bytes, key_of}

-- a header without its tag, or the fault in its place
abbrev pub clear_of : Result Header HeaderField → Result ClearHeader HeaderField
clear_of (Ok h) = Ok (clear_header h)
clear_of (Err f) = Err f

-- the words of bytes, eight each, the lowest first
abbrev pub words_in : List ℕ → List ℕ
words_in bytes = map (λ k. little_number 8 (drop (8 * k) bytes)) (range_with_len 0 (length bytes / 8))

-- the tag of a header is that of its first 48 bytes and of a sealed text, under the key for its kind
abbrev pub is_right : (forward backward : List ℕ) → Header → List ℕ → Bool
is_right forward backward h text =
    let c = clear_header h in bytes_eq h.tag (tag_bytes (key_of forward backward c) (iv_bytes c) (additional_bytes c) text)

-- the words that a sealed text opens to: none where the tag isn't right
abbrev pub opened_words : (forward backward : List ℕ) → Header → List ℕ → List ℕ
opened_words forward backward h text =
    let c = clear_header h in if is_right forward backward h text then words_in (mixed (key_of forward backward c) (iv_bytes c) text) else []

-- a bundle with that header and this sealed text
abbrev pub opened_as : (forward backward : List ℕ) → Header → List ℕ → Incoming
opened_as forward backward h text = record { header = Ok (clear_header h); opens = is_right forward backward h text; payload = opened_words forward backward h text }

abbrev pub opened_by : (forward backward bytes : List ℕ) → Result Header HeaderField → Incoming
opened_by forward backward bytes (Err f) = record { header = Err f; opens = false; payload = [] }
opened_by forward backward bytes (Ok h) = opened_as forward backward h (drop 64 bytes)

-- what a bundle's bytes come in as: one whose form is faulty opens to nothing
abbrev pub opened : (forward backward bytes : List ℕ) → Incoming
opened forward backward bytes = opened_by forward backward bytes (bundle_in bytes)

-- the words that a text opened to, if it did
abbrev pub AreOpened : (forward backward : List ℕ) → Header → List ℕ → Option (Vec ℕ) → Type 0
AreOpened forward backward h text None = is_right forward backward h text ≡ false
AreOpened forward backward h text (Some words) = (is_right forward backward h text ≡ true) × (words.items ≡ opened_words forward backward h text)
