-- What the comparisons' calls answer: tests 1 and 2, and 8 for the nugget, then the call itself.
use Rattle.std.specs.Prelude.{ℕ, List, eqb, ltb, leb, length}
use Rattle.base.specs.Pick.{pick}
use Rattle.answers.specs.Answer.{Answer}
use Rattle.answers.specs.Answer as A
use Rattle.answers.specs.Numbers.{accepts}
use Rattle.layout.specs.declared.Shape.{Shape}
use Rattle.layout.specs.Shape.{in_limits}
use Rattle.layout.specs.Parts.{length_of}
use Rattle.words.specs.Xor.{xorl}
use Rattle.records.specs.declared.Gauge.{Gauge}
use Rattle.keys.specs.declared.Lock.{Lock}
use Rattle.keys.specs.Pads.{pad_of}
use Rattle.tree.specs.Path.{path_of}
use Rattle.tree.specs.Whole.{whole_of}
use Rattle.tree.specs.Renewed.{renewed, built}

-- a lock by version, key, nugget and keycount, under ChaCha20
abbrev pub lock_with : ℕ → List ℕ → ℕ → ℕ → Lock
lock_with version key n k = record { number = n; key = key; keycount = k; version = version; cipher = 0 }

-- the pad over a flake of at most 4,096 bytes, of the 64 flakes that a nugget can have; it doesn't look at version or nugget
unfoldable pub laid_bytes : List ℕ → ℕ → ℕ → List ℕ → List ℕ
laid_bytes key k f d = pick (leb (length d) 4096) (pick (ltb f 64) (xorl d (pad_of (lock_with 1 key 0 k) f (length d))) d) d

-- 1, 2
unfoldable pub shaped_answer : Shape → List ℕ → Answer
shaped_answer s v = pick (in_limits s) (pick (eqb (length v) (length_of s)) A.Accepted A.Length) A.Limits

-- 1, 2, 8
unfoldable pub renew_answer : Shape → List ℕ → ℕ → Answer
renew_answer s v n = pick (accepts (shaped_answer s v)) (pick (ltb n s.n) A.Accepted A.PastEnd) (shaped_answer s v)

unfoldable pub path_answer : Shape → Gauge → List ℕ → ℕ → Answer
path_answer s gauge v n = pick (accepts (renew_answer s v n)) (path_of s gauge v n) (renew_answer s v n)

unfoldable pub whole_answer : Shape → Gauge → List ℕ → Answer
whole_answer s gauge v = pick (accepts (shaped_answer s v)) (whole_of s gauge v) (shaped_answer s v)

unfoldable pub renewed_bytes : Shape → ℕ → List ℕ → List ℕ
renewed_bytes s n v = pick (accepts (renew_answer s v n)) (renewed s n v) v

unfoldable pub built_bytes : Shape → List ℕ → List ℕ
built_bytes s v = pick (accepts (shaped_answer s v)) (built s v) v
