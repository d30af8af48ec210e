-- What is hashed, as data, and the theorem that its bytes tell all of it. Proved, as `one-message` (and `versions_apart`), in proofs/ReadBack.antt.
use Rattle.std.specs.Prelude.{◌≡◌, true, false, ◌⊎◌, List, ℕ, ◌%◌, ◌^◌, ◌<◌, length}
use Rattle.messages.specs.Messages.{letter_f, letter_g, nugget_message, tag_message, is_first, tag_letter, check_message, seal_message, leaf_message, inner_message}

-- what goes into each hash, beside its key
pub data Message : Type 0 where
  -- of a nugget key: salt and nugget
  for_nugget : List ℕ → ℕ → Message
  -- of a tag key: its version's letter, flake and keycount
  for_tag : ℕ → ℕ → ℕ → Message
  -- of the old-secret check: salt and epoch
  for_check : List ℕ → ℕ → Message
  -- of the seal: head bytes 0 to 71 and node 1
  for_seal : List ℕ → List ℕ → Message
  -- of a leaf: nugget, record bytes and all tags
  for_leaf : ℕ → List ℕ → List ℕ → Message
  -- of an inner node: both children
  for_inner : List ℕ → List ℕ → Message

unfoldable pub bytes_of : Message → List ℕ
bytes_of (for_nugget salt n) = nugget_message salt n
bytes_of (for_tag letter f k) = tag_message letter f k
bytes_of (for_check salt epoch) = check_message salt epoch
bytes_of (for_seal front node) = seal_message front node
bytes_of (for_leaf n bytes tags) = leaf_message n bytes tags
bytes_of (for_inner left right) = inner_message left right

-- each part has the width that document 01 gives it; a record may have version 2's, and tags have 16 bytes each, so that a leaf's
-- message tells by its length which version it is of
unfoldable pub Wide : Message → Type 0
Wide (for_nugget salt n) = (length salt ≡ 16) × (n < 2 ^ 32)
Wide (for_tag letter f k) = ((letter ≡ letter_f) ⊎ (letter ≡ letter_g)) × (f < 2 ^ 16) × (k < 2 ^ 64)
Wide (for_check salt epoch) = (length salt ≡ 16) × (epoch < 2 ^ 16)
Wide (for_seal front node) = length front ≡ 72
Wide (for_leaf n bytes tags) = (n < 2 ^ 32) × ((length bytes ≡ 18) ⊎ (length bytes ≡ 26)) × (length tags % 16 ≡ 0)
Wide (for_inner left right) = length left ≡ 32

-- A message tells everything that goes into it, and messages of different letters differ. What is left to trust is only that
-- BLAKE2s gives different messages different values.
abbrev pub OneMessage : Type 0
OneMessage = (a b : Message) → Wide a → Wide b → bytes_of a ≡ bytes_of b → a ≡ b

-- No tag key of version 1 has the message of one of a later version: a nugget key, a flake and a keycount that a volume of each has alike
-- make two messages, and so, unless BLAKE2s is broken, two tag keys.
abbrev pub VersionsApart : Type 0
VersionsApart =
    (first later f g k l : ℕ) → is_first first ≡ true → is_first later ≡ false → tag_message (tag_letter first) f k ≡ tag_message (tag_letter later) g l → ⊥
