-- There are histories: a format of one nugget with two flakes of 64 bytes is accepted, under any secret and in both versions.
use mathlib.Core.Path.{◌≡◌, refl}
use mathlib.Core.List.{List}
use Prim.Native.Nat.{ℕ}
use native.Mathlib.Omega.{arith}
use Rattle.answers.specs.Answer as A
use Rattle.layout.specs.declared.Shape.{Shape}
use Rattle.layout.specs.Shape.{shape_as, shape, sized, known_version, known_cipher, known, width_of, in_limits, height_of, height_from}
use Rattle.layout.specs.Parts.{length_of}
use Rattle.drive.specs.Drive.{zeros}
use Rattle.opening.specs.Format.{format_answer}
use Rattle.history.specs.History.{Start}

-- a start with no salt, from the counter 0
abbrev pub start_of : (s : Shape) → format_answer s 0 (zeros (length_of s)) ≡ A.Accepted → List ℕ → Start
start_of s accepted secret =
    record {
      shape = s;
      salt = zeros 16;
      secret = secret;
      outside = 0;
      given = zeros (length_of s);
      salted = refl;
      low = omega arith;
      accepted = accepted;
    }

unfoldable pub one-nugget : List ℕ → Start
unfolding format_answer in_limits sized known known_version known_cipher width_of height_of height_from
one-nugget secret = start_of (shape 1 2 64) refl secret

-- under version 2
unfoldable pub one-nugget-two : List ℕ → Start
unfolding format_answer in_limits sized known known_version known_cipher width_of height_of height_from
one-nugget-two secret = start_of (shape_as 2 0 1 2 64) refl secret
