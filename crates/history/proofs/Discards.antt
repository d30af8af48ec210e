-- What a discard leaves, over every history.
use mathlib.Core.Path.{◌≡◌, refl, ap}
use mathlib.Core.Bool.{true, false}
use mathlib.Core.Logic.{◌⊎◌, inl, inr}
use Prim.Native.Nat.{ℕ, ◌<◌}
use Rattle.base.proofs.PickLaws.{told}
use Rattle.records.specs.Rule.{cleared_by}
use Rattle.drive.specs.declared.Done.{Done}
use Rattle.drive.specs.Drive.{shape_of}
use Rattle.changes.specs.Discard.{clears, discard_ways, discard_volume}
use Rattle.changes.proofs.DiscardLaws.{discard-idle as idle-law}
use Rattle.history.specs.World.{World, discard}
use Rattle.history.specs.Step.{world_after, step}
use Rattle.history.specs.History.{history}
use Rattle.history.specs.Demands.{KeptButHeld, DiscardKeeps, DiscardIdle}
use Rattle.history.proofs.Sound.{Sound}
use Rattle.history.proofs.Freed.{cleared_kept}
use Rattle.history.proofs.Steps.{sound}

kept-all : (w : World) (m gone : ℕ) → KeptButHeld (shape_of w.drive) w.vol w.vol m gone
kept-all w m gone = record { keycount = refl; spent = refl; held = λ f off. refl; epoch = refl; stored = λ f l. refl; tags = λ f l. refl }

keeps : (w : World) → Sound w → (n first count m : ℕ) → m < w.drive.n
    → KeptButHeld (shape_of w.drive) w.vol (step w (discard n first count)).vol m (cleared_by (discard_ways n first count m))
unfolding step world_after discard_volume
keeps w x n first count m h = go (told (clears w.drive w.vol n first count))
  where
    go : (clears w.drive w.vol n first count ≡ true) ⊎ (clears w.drive w.vol n first count ≡ false)
        → KeptButHeld (shape_of w.drive) w.vol (discard_volume w.drive w.vol n first count) m (cleared_by (discard_ways n first count m))
    go (inl e) = rw e (cleared_kept w x n first count e m h)
    go (inr e) = rw e (kept-all w m (cleared_by (discard_ways n first count m)))

pub discard_keeps : DiscardKeeps
discard_keeps start calls n first count m h = keeps (history start calls) (sound start calls) n first count m h

pub discard-idle : DiscardIdle
unfolding step world_after
discard-idle start calls n first count none =
    let w = history start calls in
    let off = idle-law w.drive w.vol n first count none in
    (ap (λ (x : Done). x.drive) off.0, off.1)
