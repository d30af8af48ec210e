-- Pads and keys: the auditor's second question, "Was any stretch of keystream ever laid over two different contents?", over
-- every history, for all its nuggets and all its secrets. Each statement is proved, under the same name in small letters, in
-- proofs/Pads.antt.
-- What is left to trust is only that BLAKE2s gives different messages different keys, a message taken with the secret or key
-- that it is hashed under.
use Rattle.std.specs.Prelude.{ℕ, ◌+◌, ◌*◌, ◌/◌, ◌<◌, ◌≤◌, ◌≡◌, true, false, List, [], ◌++◌}
use Rattle.std.proofs.Math.Option.{some}
use Rattle.std.proofs.Math.ListN.{get_elem?}
use Rattle.base.specs.Lists.{part}
use Rattle.messages.specs.Messages.{nugget_message, tag_message, tag_letter}
use Rattle.messages.specs.OneMessage.{Message, for_check, for_seal, for_leaf, for_inner, bytes_of, Wide}
use Rattle.layout.specs.declared.Shape.{Shape}
use Rattle.layout.specs.Shape.{leaves}
use Rattle.layout.specs.Parts.{tag_at}
use Rattle.records.specs.Journal.{bit}
use Rattle.records.specs.Listing.{Entry, entry}
use Rattle.blake2s.specs.Hash.{blake2s}
use Rattle.keys.specs.declared.Lock.{Lock}
use Rattle.keys.specs.Keys.{tag_key}
use Rattle.keys.specs.Ciphers.{Cipher, cipher_of}
use Rattle.keys.specs.Pads.{Stretch, input_of, pad_of}
use Rattle.keys.specs.Tags.{covered}
use Rattle.nodes.specs.Nodes.{node_in, record_part, tags_part}
use Rattle.drive.specs.Drive.{shape_of, is_changing, zeros}
use Rattle.opening.specs.Format.{fresh_record}
use Rattle.records.specs.Record.{record_of}
use Rattle.nuggets.specs.Nugget.{secret_for, lock_of, stored_in}
use Rattle.history.specs.World.{World, Call}
use Rattle.history.specs.Step.{step}
use Rattle.history.specs.History.{Start, begun, history}

-- an entry's lock, under the format's shape and salt (which stay, `ShapeKept`), and its pad: its flake's under that lock
abbrev pub lock_in : Start → Entry → Lock
lock_in start e = lock_of start.shape start.salt e

abbrev pub pad_in : Start → Entry → List ℕ
pad_in start e = pad_of (lock_in start e) e.flake start.shape.f

-- "A format option chooses the cipher of the volume", and it stays. What follows holds of either.
abbrev pub cipher_chosen : Start → Cipher
cipher_chosen start = cipher_of start.shape.cipher

-- what a block of keystream is made of: the secret and the message that the nugget key is hashed from, and what the cipher's
-- block function is given beside that key: nonce and block of ChaCha20, the counter block of AES
pub record StretchSource (c : Cipher) : Type 0 where
  pub secret : List ℕ
  pub message : List ℕ
  pub input : c.Input

-- a block of an entry's pad, by its place there
abbrev pub stretch_of : Entry → ℕ → Stretch
stretch_of e j = record { keycount = e.keycount; flake = e.flake; place = j }

abbrev pub stretch_source : (start : Start) → Entry → ℕ → StretchSource (cipher_chosen start)
stretch_source start e j =
    record {
      secret = e.secret;
      message = nugget_message start.salt e.nugget;
      input = input_of (cipher_chosen start) start.shape.f (stretch_of e j);
    }

-- how many blocks a pad has
abbrev pub stretches : Start → ℕ
stretches start = start.shape.f / (cipher_chosen start).unit

-- The pad of a listed entry is made of nothing else.
abbrev pub StretchMade : Type 0
StretchMade =
    (start : Start) (calls : List Call) (i j : ℕ) (e : Entry)
    → let s = stretch_source start e j in
    let c = cipher_chosen start in
    get_elem? (history start calls).listing i ≡ some e → j < stretches start
    → part (c.unit * j) c.unit (pad_in start e) ≡ c.give (blake2s s.secret s.message) s.input

-- No stretch of keystream is laid twice: two stretches made of the same secret, message and input, of whatever nuggets and
-- secrets, are one place of one entry.
abbrev pub NoStretchTwice : Type 0
NoStretchTwice =
    (start : Start) (calls : List Call) (i j a b : ℕ) (e g : Entry)
    → let listing = (history start calls).listing in
    get_elem? listing i ≡ some e → get_elem? listing j ≡ some g → a < stretches start → b < stretches start
    → stretch_source start e a ≡ stretch_source start g b → (i ≡ j) × (a ≡ b)

-- what a tag key is made of: the secret and the message that the nugget key is hashed from, and its own message
pub record TagSource : Type 0 where
  pub secret : List ℕ
  pub nugget : List ℕ
  pub message : List ℕ

abbrev pub tag_source : Start → Entry → TagSource
tag_source start e =
    let message = tag_message (tag_letter start.shape.version) e.flake e.keycount in
    record { secret = e.secret; nugget = nugget_message start.salt e.nugget; message = message }

-- An entry's tag key is made of nothing else.
abbrev pub TagKeyMade : Type 0
TagKeyMade =
    (start : Start) (e : Entry)
    → let s = tag_source start e in
    tag_key (lock_in start e) e.flake ≡ blake2s (blake2s s.secret s.nugget) s.message

-- A tag key serves one enciphering alone: two entries whose tag keys are made of the same are one entry.
abbrev pub NoTagKeyTwice : Type 0
NoTagKeyTwice =
    (start : Start) (calls : List Call) (i j : ℕ) (e g : Entry)
    → let listing = (history start calls).listing in
    get_elem? listing i ≡ some e → get_elem? listing j ≡ some g → tag_source start e ≡ tag_source start g → i ≡ j

-- flake f of nugget n is there, and its pad is spent
pub record Spent (s : Shape) (v : List ℕ) (n f : ℕ) : Type 0 where
  pub nugget : n < s.n
  pub flake : f < s.p
  pub on : bit (record_of s v n).spent f ≡ true

-- One pad, one contents: as long as a nugget keeps its keycount, a flake spent stays spent, and stays to the byte. So
-- nothing is laid anew under a pad that was laid before, listed or not.
abbrev pub OnePadOneContents : Type 0
OnePadOneContents =
    (start : Start) (calls later : List Call) (n f : ℕ)
    → let s = start.shape in
    let v = (history start calls).vol in
    let u = (history start (calls ++ later)).vol in
    Spent s v n f → (record_of s u n).keycount ≡ (record_of s v n).keycount → Spent s u n f × (stored_in s u n f ≡ stored_in s v n f)

-- what a spent flake lies under, by its nugget's record; by `LastPad` this is the pad last listed for each one present
abbrev pub lies_under : World → ℕ → ℕ → Entry
lies_under w n f = entry n (record_of (shape_of w.drive) w.vol n).keycount f (secret_for w.drive (record_of (shape_of w.drive) w.vol n).epoch)

-- The auditor's question, of what stands in the volume at any two points of a history: two spent flakes under stretches of
-- keystream made of the same are one flake with the same stored bytes, at one place of it.
abbrev pub OneStretchOneContents : Type 0
OneStretchOneContents =
    (start : Start) (calls later : List Call) (n f m g a b : ℕ)
    → let s = start.shape in
    let w = history start calls in
    let u = history start (calls ++ later) in
    Spent s w.vol n f → Spent s u.vol m g → a < stretches start → b < stretches start
    → stretch_source start (lies_under w n f) a ≡ stretch_source start (lies_under u m g) b
    → (n ≡ m) × (f ≡ g) × (a ≡ b) × (stored_in s u.vol m g ≡ stored_in s w.vol n f)

-- what Poly1305 is given of a spent flake: in version 1 its stored bytes, in version 2 what names them too
abbrev pub covered_in : Start → World → ℕ → ℕ → List ℕ
covered_in start w n f = covered (lock_in start (lies_under w n f)) f (stored_in start.shape w.vol n f)

-- Poly1305's key is for one message: two spent flakes whose tag keys are made of the same are one flake with the same stored
-- bytes, and Poly1305 is given the same of both.
abbrev pub OneTagKeyOneMessage : Type 0
OneTagKeyOneMessage =
    (start : Start) (calls later : List Call) (n f m g : ℕ)
    → let s = start.shape in
    let w = history start calls in
    let u = history start (calls ++ later) in
    Spent s w.vol n f → Spent s u.vol m g → tag_source start (lies_under w n f) ≡ tag_source start (lies_under u m g)
    → (n ≡ m) × (f ≡ g) × (stored_in s u.vol m g ≡ stored_in s w.vol n f) × (covered_in start u m g ≡ covered_in start w n f)

-- a value is the hash of a message under a key, and each part of the message has its width; so by `OneMessage` of crate
-- `messages` the message's bytes tell all that goes into it
pub record HashOf (value key : List ℕ) (m : Message) : Type 0 where
  pub hash : value ≡ blake2s key (bytes_of m)
  pub wide : Wide m

-- seal, old-secret check, leaves and inner nodes as they stand in a volume, each with what goes into it
pub record Hashed (s : Shape) (w : World) (v : List ℕ) : Type 0 where
  pub seal : HashOf (part 72 32 v) w.secret (for_seal (part 0 72 v) (node_in s v 1))
  pub check : is_changing w.drive.state ≡ true → HashOf (part 40 32 v) w.old (for_check w.drive.salt w.drive.epoch)
  pub leaf : (n : ℕ) → n < s.n → HashOf (node_in s v (leaves s.n + n)) [] (for_leaf n (record_part s v n) (tags_part s v n))
  pub inner : (i : ℕ) → 1 ≤ i → i < leaves s.n → HashOf (node_in s v i) [] (for_inner (node_in s v (2 * i)) (node_in s v (2 * i + 1)))

-- So they stand at every point of a history.
abbrev pub HashesStand : Type 0
HashesStand = (start : Start) (calls : List Call) → let w = history start calls in Hashed start.shape w w.vol

-- "Everything is zero but the head and tree; epochs are 1": after the format each record is a fresh one and each flake and tag
-- is zeros, whatever the buffer held.
abbrev pub FormatClears : Type 0
FormatClears =
    (start : Start) (n f : ℕ)
    → let s = start.shape in
    let v = (begun start).vol in
    n < s.n → f < s.p → (record_of s v n ≡ fresh_record) × (stored_in s v n f ≡ zeros s.f) × (part (tag_at s n f) 16 v ≡ zeros 16)

-- A call stores in no flake that it lists nothing for: one that is absent afterwards has the bytes and the tag that it had
-- before. So nothing that was written ever stands bare in a place that isn't looked at.
abbrev pub AbsentStays : Type 0
AbsentStays =
    (start : Start) (calls : List Call) (c : Call) (n f : ℕ)
    → let s = start.shape in
    let v = (history start calls).vol in
    let u = (step (history start calls) c).vol in
    n < s.n → f < s.p → bit (record_of s u n).held f ≡ false → (stored_in s u n f ≡ stored_in s v n f) × (part (tag_at s n f) 16 u ≡ part (tag_at s n f) 16 v)
