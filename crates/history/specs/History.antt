-- Demand 3: "Begin with one accepted format, which isn't repeated. Make any calls after it".
use Rattle.std.specs.Prelude.{ℕ, ◌^◌, ◌<◌, ◌≡◌, Bool, false, List, [], ◌∷◌, length}
use Rattle.base.specs.Pick.{either}
use Rattle.answers.specs.Answer as A
use Rattle.layout.specs.declared.Shape.{Shape}
use Rattle.drive.specs.Drive.{zeros}
use Rattle.opening.specs.Format.{format_answer, format_done, format_volume}
use Rattle.history.specs.World.{World, Call}
use Rattle.history.specs.Step.{step}

-- an accepted format, with what it was given
pub record Start : Type 0 where
  pub shape : Shape
  pub salt : List ℕ
  pub secret : List ℕ
  pub outside : ℕ
  pub given : List ℕ
  -- "the salt 16", and a counter of eight bytes: what the code's types say
  pub salted : length salt ≡ 16
  pub low : outside < 2 ^ 64
  pub accepted : format_answer shape outside given ≡ A.Accepted

-- what the user holds after it: nothing listed, nothing retired, nothing written
unfoldable pub begun : Start → World
begun x =
    let done = format_done x.shape x.salt x.secret x.outside x.given in
    record {
      vol = format_volume x.shape x.salt x.secret x.outside x.given;
      drive = done.drive;
      secret = x.secret;
      old = zeros 32;
      outside = done.drive.counter;
      listing = [];
      retired = 0;
      contents = λ a. 0;
    }

-- one call after another
unfoldable pub run : World → List Call → World
run w [] = w
run w (c ∷ calls) = run (step w c) calls

abbrev pub history : Start → List Call → World
history x calls = run (begun x) calls

-- one of the calls passes the test, each on what those before it left
unfoldable pub among : (World → Call → Bool) → World → List Call → Bool
among test w [] = false
among test w (c ∷ calls) = either (test w c) (among test (step w c) calls)
