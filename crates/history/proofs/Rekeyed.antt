-- After a rekey what is spent is what is held, over every history.
use mathlib.Core.Path.{◌≡◌, refl, sym, ap, ◌∙◌}
use mathlib.Core.Bool.{true}
use Prim.Native.Nat.{ℕ, ◌<◌}
use lib.ListN.{length}
use Rattle.base.proofs.PickLaws.{clash, both_left, both_right}
use Rattle.answers.proofs.StageLaws.{accepted_is}
use Rattle.records.specs.declared.Record.{Record}
use Rattle.records.specs.declared.Way.{Way}
use Rattle.records.specs.Record.{record_of}
use Rattle.records.specs.Rule.{rekeys, turned}
use Rattle.records.proofs.RuleLaws.{rekeyed_all}
use Rattle.drive.specs.Drive.{shape_of}
use Rattle.changes.specs.Write.{write_way}
use Rattle.changes.specs.Rekey.{sweep_ways}
use Rattle.history.specs.World.{World, Call, mount, write, begin, sweep, finish, discard, asks}
use Rattle.history.specs.Step.{answer_to, step, changes_by}
use Rattle.history.specs.History.{history}
use Rattle.history.specs.Demands.{rekeys_in, RekeyEvens}
use Rattle.history.proofs.Sound.{Sound}
use Rattle.history.proofs.Steps.{sound}
use Rattle.history.proofs.Written.{turned_by}
use Rattle.history.proofs.Moves.{swept_record}

evened : (way : Way) (head : ℕ) (r : Record) {q : Record} → q ≡ turned way head r → rekeys way ≡ true → q.spent ≡ q.held
evened way head r e on =
    let all = rekeyed_all way r on in
    ap (λ (z : Record). z.spent) e ∙ all.1 ∙ sym all.0 ∙ sym (ap (λ (z : Record). z.held) e)

evens : (w : World) → Sound w → (c : Call) (n : ℕ) → n < w.drive.n → rekeys_in w c n ≡ true
    → (record_of (shape_of (step w c).drive) (step w c).vol n).spent ≡ (record_of (shape_of (step w c).drive) (step w c).vol n).held
evens w x (mount any) n h e = absurd (clash e refl)
evens w x (write o bytes) n h e =
    let way = write_way w.drive w.vol o (length bytes) n in
    let taken = both_left (changes_by w (write o bytes)) (rekeys way) e in
    evened way w.drive.epoch (record_of (shape_of w.drive) w.vol n) (turned_by w x o bytes taken n h) (both_right (changes_by w (write o bytes)) (rekeys way) e)
evens w x (begin secret) n h e = absurd (clash e refl)
evens w x (sweep m) n h e =
    let way = sweep_ways m n in
    let taken = accepted_is (answer_to w (sweep m)) (both_left (changes_by w (sweep m)) (rekeys way) e) in
    evened way w.drive.epoch (record_of (shape_of w.drive) w.vol n) (swept_record w x m taken n h) (both_right (changes_by w (sweep m)) (rekeys way) e)
evens w x finish n h e = absurd (clash e refl)
evens w x (discard m first count) n h e = absurd (clash e refl)
evens w x (asks q) n h e = absurd (clash e refl)

pub rekey_evens : RekeyEvens
rekey_evens start calls c n h e = evens (history start calls) (sound start calls) c n h e
