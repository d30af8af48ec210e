-- What a discard hands back and leaves, from its answer and from what it clears.
use mathlib.Core.Path.{◌≡◌, refl, sym, ap, ◌∙◌}
use mathlib.Core.Bool.{true, false, not}
use mathlib.Core.List.{List}
use Prim.Native.Nat.{ℕ}
use Rattle.base.proofs.PickLaws.{both-on, both_off}
use Rattle.answers.specs.Answer.{Answer}
use Rattle.answers.specs.Numbers.{accepts}
use Rattle.drive.specs.declared.Drive.{Drive}
use Rattle.drive.specs.declared.Done.{Done}
use Rattle.changes.specs.Change.{advanced, settled}
use Rattle.changes.specs.Discard.{clears_none, discard_answer, clears, discard_work, discarded_drive, discard_done, discard_volume}
use Rattle.changes.proofs.DiscardLaws.{clears_off}

module _ (d : Drive) (v : List ℕ) (n first count : ℕ) {a : Answer} (e : discard_answer d v n first count ≡ a) where
  pub clears-on : accepts a ≡ true → clears_none d v n first count ≡ false → clears d v n first count ≡ true
  clears-on t some = both-on (ap accepts e ∙ t) (ap not some)

  pub done_on : {x : Drive} {u w : List ℕ} → accepts a ≡ true → clears_none d v n first count ≡ false → u ≡ discard_work d v n first count
      → x ≡ advanced d u → w ≡ settled (advanced d u) u
      → (◌≡◌ {A = Done} (record { answer = a; drive = x }) (discard_done d v n first count)) × (w ≡ discard_volume d v n first count)
  unfolding discard_done discard_volume
  done_on t some work p q =
      let c = clears-on t some in
      (rw (c, p, work) (λ i. record { answer = sym e i; drive = discarded_drive d v n first count }), q ∙ rw (c, work) refl)

  pub done_off : clears d v n first count ≡ false
      → (◌≡◌ {A = Done} (record { answer = a; drive = d }) (discard_done d v n first count)) × (v ≡ discard_volume d v n first count)
  done_off c =
      let off = clears_off d v n first count c in
      ((λ i. record { answer = sym e i; drive = d }) ∙ sym off.0, sym off.1)

  pub clears-refused : accepts a ≡ false → clears d v n first count ≡ false
  clears-refused t = both_off _ (ap accepts e ∙ t)
