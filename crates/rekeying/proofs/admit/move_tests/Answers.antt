use Rattle.changes.specs.Rekey.{move_tests}
use Rattle.nuggets.specs.declared.Nugget.{Nugget}
use Rattle.nuggets.specs.Nugget.{nugget_of}
use Rattle.nuggets.specs.Tests.{flakes_tested}
use Rattle.records.specs.declared.Record.{Record}
use Rattle.records.specs.Record.{record_of}
use Rattle.layout.specs.declared.Shape.{Shape}
use Rattle.drive.specs.Drive.{shape_of}
use Rattle.base.proofs.PickLaws.{yes, no}
use borrow.Author.Tests.{eq-eqb, ne_eqb}
use mathlib.Core.Path.{◌≡◌, refl, sym, ◌∙◌, ap}
use Rattle.rekeying.proofs.admit.move_tests.Goals as goal

pub returns-then-r-d : goal.returns-then-r-d
unfolding move_tests
returns-then-r-d c =
    let d = c.args.d in
    let v = c.args.vol.now in
    let r : c.read-r.result ≡ record_of (shape_of d) v c.args.n = c.read-r.ensures ∙ ap (λ (x : Shape). record_of x v c.args.n) c.shape_of-s.ensures in
    let e : c.read-r.result.epoch ≡ (record_of (shape_of d) v c.args.n).epoch = ap (λ (x : Record). x.epoch) r in
    sym (yes _ (eq-eqb _ _ (sym e ∙ c.if-r-d.true)) refl)

pub returns-then-d-eq18446744073709551615 : goal.returns-then-d-eq18446744073709551615
unfolding move_tests
returns-then-d-eq18446744073709551615 c =
    let d = c.args.d in
    let v = c.args.vol.now in
    let r : c.read-r.result ≡ record_of (shape_of d) v c.args.n = c.read-r.ensures ∙ ap (λ (x : Shape). record_of x v c.args.n) c.shape_of-s.ensures in
    let e : c.read-r.result.epoch ≡ (record_of (shape_of d) v c.args.n).epoch = ap (λ (x : Record). x.epoch) r in
    sym (no _ (ne_eqb _ _ (λ q. c.if-r-d.false (e ∙ q))) (yes _ (eq-eqb _ _ c.if-d-eq18446744073709551615.true) refl))

pub returns : goal.returns
unfolding move_tests
returns c =
    let d = c.args.d in
    let v = c.args.vol.now in
    let r : c.read-r.result ≡ record_of (shape_of d) v c.args.n = c.read-r.ensures ∙ ap (λ (x : Shape). record_of x v c.args.n) c.shape_of-s.ensures in
    let e : c.read-r.result.epoch ≡ (record_of (shape_of d) v c.args.n).epoch = ap (λ (x : Record). x.epoch) r in
    let f : c.flakes.result ≡ flakes_tested (shape_of d) v (nugget_of d v c.args.n) (record_of (shape_of d) v c.args.n).held = c.flakes.ensures ∙ ap (λ (x : Shape). flakes_tested x v c.nugget_of.result c.read-r.result.held) c.shape_of-s.ensures ∙ ap (λ (x : Nugget). flakes_tested (shape_of d) v x c.read-r.result.held) c.nugget_of.ensures ∙ ap (λ (x : Record). flakes_tested (shape_of d) v (nugget_of d v c.args.n) x.held) r in
    f ∙ sym (no _ (ne_eqb _ _ (λ q. c.if-r-d.false (e ∙ q))) (no _ (ne_eqb _ _ c.if-d-eq18446744073709551615.false) refl))
