-- Document 01: "Format takes N, P, F, salt, secret and the outside counter. Everything is zero but the head and tree;
-- epochs are 1; the counter is the outside value plus 1." "Format: 1, 2, 13." Document 02, Item 4: "Format and the drive gain the
-- version", "1 for an unknown version"; Item 8: "A format option chooses the cipher of the volume".
use Rattle.std.specs.Prelude.{ℕ, zero, suc, ◌+◌, List, eqb, length}
use Rattle.std.proofs.lemmas.List.Edits.{sets}
use Rattle.base.specs.Pick.{pick}
use Rattle.answers.specs.Answer.{Answer}
use Rattle.answers.specs.Answer as A
use Rattle.answers.specs.Numbers.{accepts}
use Rattle.layout.specs.declared.Shape.{Shape}
use Rattle.layout.specs.Shape.{in_limits}
use Rattle.layout.specs.Parts.{length_of, record_at}
use Rattle.records.specs.declared.Record.{Record}
use Rattle.records.specs.Record.{record_bytes}
use Rattle.nodes.specs.Nodes.{node_in}
use Rattle.tree.specs.Renewed.{built}
use Rattle.drive.specs.declared.Drive.{Drive}
use Rattle.drive.specs.declared.Done.{Done}
use Rattle.drive.specs.declared.State.TheVariants.{Steady}
use Rattle.drive.specs.Drive.{zeros, blank_drive, counter_top}
use Rattle.drive.specs.Head.{head_of}

-- 1: N, P, F, version, cipher; 2: the length; 13: "counter at its top"
unfoldable pub format_answer : Shape → ℕ → List ℕ → Answer
format_answer s outside v =
    pick (in_limits s)
    (pick (eqb (length v) (length_of s))
    (pick (eqb outside counter_top) A.CounterTop
    A.Accepted)
    A.Length)
    A.Limits

-- "Everything is zero [..]; epochs are 1": a nugget with nothing in it
abbrev pub fresh_record : Record
fresh_record = record { keycount = 0; spent = 0; held = 0; epoch = 1 }

-- the records of k nuggets from nugget n on
unfoldable pub fresh_from : Shape → ℕ → ℕ → List ℕ → List ℕ
fresh_from s zero n v = v
fresh_from s (suc k) n v = fresh_from s k (suc n) (sets v (record_at s n) (record_bytes s fresh_record))

-- zeros and the fresh records
unfoldable pub bare : Shape → List ℕ
bare s = fresh_from s s.n 0 (zeros (length_of s))

-- with the tree over them
unfoldable pub planted : Shape → List ℕ
planted s = built s (bare s)

-- "epochs are 1; the counter is the outside value plus 1"
unfoldable pub fresh_drive : Shape → List ℕ → List ℕ → ℕ → Drive
fresh_drive s salt secret outside =
    record {
      n = s.n;
      p = s.p;
      f = s.f;
      version = s.version;
      cipher = s.cipher;
      salt = salt;
      state = Steady;
      epoch = 1;
      counter = outside + 1;
      node = node_in s (planted s) 1;
      present = secret;
      old = zeros 32;
    }

-- and with the head that the fresh drive makes
unfoldable pub fresh_volume : Shape → List ℕ → List ℕ → ℕ → List ℕ
fresh_volume s salt secret outside = sets (planted s) 0 (head_of (fresh_drive s salt secret outside))

-- what is handed back, and what the volume holds, by the answer: "A refusal stores nothing", "A refused format [..] returns the blank drive"
abbrev pub format_done_at : Answer → Shape → List ℕ → List ℕ → ℕ → Done
format_done_at a s salt secret outside = record { answer = a; drive = pick (accepts a) (fresh_drive s salt secret outside) blank_drive }

abbrev pub format_volume_at : Answer → Shape → List ℕ → List ℕ → ℕ → List ℕ → List ℕ
format_volume_at a s salt secret outside v = pick (accepts a) (fresh_volume s salt secret outside) v

unfoldable pub format_done : Shape → List ℕ → List ℕ → ℕ → List ℕ → Done
format_done s salt secret outside v = format_done_at (format_answer s outside v) s salt secret outside

unfoldable pub format_volume : Shape → List ℕ → List ℕ → ℕ → List ℕ → List ℕ
format_volume s salt secret outside v = format_volume_at (format_answer s outside v) s salt secret outside v
