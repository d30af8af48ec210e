-- What a call hands back and leaves, from its answer.
use mathlib.Core.Path.{◌≡◌, ◌∙◌}
use mathlib.Core.Bool.{true, false}
use mathlib.Core.List.{List}
use Prim.Native.Nat.{ℕ}
use Rattle.base.specs.Pick.{pick}
use Rattle.answers.specs.Answer.{Answer}
use Rattle.answers.specs.Numbers.{accepts}
use Rattle.drive.specs.declared.Drive.{Drive}
use Rattle.drive.specs.declared.Done.{Done}

module _ {due a : Answer} (d new : Drive) (v w : List ℕ) (e : due ≡ a) where
  pub done_on : {x : Drive} {u : List ℕ} → accepts a ≡ true → x ≡ new → u ≡ w
      → (◌≡◌ {A = Done} (record { answer = a; drive = x }) (record { answer = due; drive = pick (accepts due) new d })) × (u ≡ pick (accepts due) w v)
  done_on t p q = (rw (e, t, p), q ∙ rw (e, t))

  pub done_off : accepts a ≡ false
      → (◌≡◌ {A = Done} (record { answer = a; drive = d }) (record { answer = due; drive = pick (accepts due) new d })) × (v ≡ pick (accepts due) w v)
  done_off t = (rw (e, t), rw (e, t))
