-- What a session comes to, whatever the shape, the salt, the text, its place and the two secrets: what was written before the
-- change of the secret is what is read after it, nothing is left under the first secret, and nobody needs that any more.
use Rattle.std.specs.Prelude.{ℕ, ◌+◌, ◌*◌, ◌^◌, ◌<◌, ◌≤◌, ◌≡◌, List, length, replicate}
use Rattle.answers.specs.Answer as A
use Rattle.layout.specs.Shape.{shape}
use Rattle.opening.specs.Format.{format_answer}
use Rattle.opening.specs.Mount.{mount_done}
use Rattle.recorder.specs.declared.Setup.{Setup}
use Rattle.recorder.specs.Session.{heard_of, left_by, reading_back}

module _ (s : Setup) (salt first second v text buffer : List ℕ) where
  -- what is asked: an accepted format, another secret, a text inside the drive, a buffer as long as the text
  pub record Able : Type 0 where
    pub salted : length salt ≡ 16
    pub accepted : format_answer s.shape s.outside v ≡ A.Accepted
    pub another : second ≡ first → ⊥
    pub inside : s.offset + length text ≤ s.shape.n * s.shape.p * s.shape.f
    pub fitting : length buffer ≡ length text
    -- "Each accepted format, nonempty write, begin, sweep and finish adds 1 to the counter"
    pub room : s.outside + s.shape.n + 4 < 2 ^ 64

  pub record Recorded : Type 0 where
    pub formatted : (heard_of s salt first second v text (length buffer)).formatted ≡ A.Accepted
    pub written : (heard_of s salt first second v text (length buffer)).written ≡ A.Accepted
    pub begun : (heard_of s salt first second v text (length buffer)).begun ≡ A.Accepted
    -- before the sweeps all N nuggets are left
    pub early : (heard_of s salt first second v text (length buffer)).early ≡ A.Left s.shape.n
    pub finished : (heard_of s salt first second v text (length buffer)).finished ≡ A.Accepted
    pub read : (heard_of s salt first second v text (length buffer)).read ≡ A.Accepted
    -- "What is written is what is later read."
    pub same : reading_back s salt first second v text buffer ≡ text
    pub left : (heard_of s salt first second v text (length buffer)).report.left ≡ 0
    pub full : (heard_of s salt first second v text (length buffer)).report.share ≡ 10000
    -- the drive mounts with the second secret, whatever is brought for the first
    pub free : (any : List ℕ) → let h = left_by s salt first second v text in
        mount_done h.vol second any h.drive.counter ≡ record { answer = A.Accepted; drive = h.drive }

abbrev pub SessionRecords : Type 0
SessionRecords = (s : Setup) (salt first second v text buffer : List ℕ) → Able s salt first second v text buffer → Recorded s salt first second v text buffer

-- The session of `main` is one of these, with any text of 15 bytes.
abbrev pub MainRecords : Type 0
MainRecords =
    (text : List ℕ) → length text ≡ 15
    → Able (record { shape = shape 3 2 64; outside = 0; offset = 100 }) (replicate 16 5) (replicate 32 1) (replicate 32 2) (replicate 862 0) text (replicate 15 0)
