-- The theorems of specs/Relaid.antt, each under its name.
use mathlib.Core.Path.{◌≡◌, refl, ap, ◌∙◌}
use mathlib.Core.List.{List}
use Prim.Native.Nat.{ℕ}
use lib.ListN.{length}
use borrow.Author.Tests.{ltb-true}
use Rattle.base.proofs.PickLaws.{yes, both_left, both_right}
use Rattle.answers.specs.Numbers.{accepts}
use Rattle.records.specs.declared.Way.{Way}
use Rattle.records.specs.Rule.{rekeys, sweep_way}
use Rattle.drive.specs.declared.Drive.{Drive}
use Rattle.drive.specs.Drive.{shape_of}
use Rattle.opening.proofs.Reopens.{length-head}
use Rattle.nuggets.specs.Nugget.{stored_in, contents_of}
use Rattle.changes.specs.Change.{advanced, settled}
use Rattle.changes.specs.Write.{write_way, write_answer, new_contents, write_work, written_drive, write_volume}
use Rattle.changes.specs.Rekey.{sweep_ways, sweep_work, swept_drive, sweep_volume}
use Rattle.changes.specs.Relaid.{relaid_under}
use Rattle.changes.proofs.SettleLaws.{settled_same}
use Rattle.changes.proofs.SweepLaws.{way_own}
use Rattle.changes.proofs.AnswerLaws.{sweep-told, write-told}
use Rattle.changes.proofs.Relaid.{missed, long_new, long_same, worked_relays}
use Rattle.history.specs.Step.{world_after, step}
use Rattle.history.specs.History.{history}
use Rattle.history.specs.Relaid.{SweepRelays, WriteRelays}
use Rattle.history.proofs.Steps.{sound}

-- the head leaves every flake
headed : (d e : Drive) (w : List ℕ) (n f : ℕ) → length e.salt ≡ 16 → stored_in (shape_of d) (settled e w) n f ≡ stored_in (shape_of d) w n f
headed d e w n f salted = (settled_same (shape_of d) e w (length-head e salted) n f).stored

pub sweep_relays : SweepRelays
unfolding step world_after sweep_volume advanced
sweep_relays start calls n f ok b held =
    let w = history start calls in
    let d = w.drive in
    let v = w.vol in
    let t = sweep-told d v n ok in
    ap (λ (u : List ℕ). stored_in (shape_of d) u n f) (yes v ok refl)
    ∙ headed d (swept_drive d v n) (sweep_work d v n) n f (sound start calls).handed.salt_long_lem
    ∙ worked_relays d v t.lent (sweep_ways n) (contents_of d v) (long_same d v t.lent) n f t.inside b (ap rekeys (way_own n sweep_way)) held refl
    ∙ ap (λ (way : Way). relaid_under d v way n f) (way_own n sweep_way)

pub write_relays : WriteRelays
unfolding step world_after write_volume advanced
write_relays start calls o bytes n f ok a b rekeyed held off =
    let w = history start calls in
    let d = w.drive in
    let v = w.vol in
    let answered = accepts (write_answer d v o (length bytes)) in
    let t = write-told d v o (length bytes) (ltb-true 0 (length bytes) (both_right answered _ ok)) (both_left answered _ ok) in
    ap (λ (u : List ℕ). stored_in (shape_of d) u n f) (yes v ok refl)
    ∙ headed d (written_drive d v o bytes) (write_work d v o bytes) n f (sound start calls).handed.salt_long_lem
    ∙ worked_relays d v t.lent (write_way d v o (length bytes)) (new_contents d v o bytes) (long_new d v t.lent o bytes) n f a b rekeyed held
    (missed (shape_of d) o bytes n f (contents_of d v n f) (long_same d v t.lent n f a b) off)
