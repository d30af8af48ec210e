-- Laws of the rule of a change on one nugget.
use mathlib.Core.Path.{◌≡◌, refl, sym, ◌∙◌}
use mathlib.Core.Bool.{Bool, true, false}
use Prim.Native.Nat.{ℕ, ◌+◌, ◌^◌, ◌<◌, ◌≤◌}
use native.Mathlib.Nat.{le_refl}
use native.Mathlib.Omega.{arith}
use lib.Bits.{or_lt}
use lib.Dec.{eqb}
use borrow.Author.Tests.{eq-eqb, ne_eqb, eqb-true, lt-ltb, ltb-true, le-leb, leb-true}
use Rattle.base.specs.Pick.{pick, both}
use Rattle.base.proofs.PickLaws.{clash, both_left, both_right, both-on, either_right, either-told}
use Rattle.records.specs.declared.Record.{Record}
use Rattle.records.specs.declared.Gauge.{Gauge}
use Rattle.records.specs.declared.Way.{Way}
use Rattle.records.specs.declared.Way.TheVariants.{Idle, Add, Rekey, Clear}
use Rattle.layout.specs.declared.Shape.{Shape}
use Rattle.records.specs.Journal.{bit, union, without, share_none, lies_in}
use Rattle.records.specs.Record.{against, none_from, epoch_fits, not_above, well_formed, Codes}
use Rattle.records.specs.Rule.{way_of, touched_by, cleared_by, rekeys, enciphered, keycount_after, spent_after, held_after, epoch_after, turned, CanRise, MayClear}
use Rattle.records.proofs.BitLaws.{bit-union, bit-empty, without-none, without-lt, lies_lt, lies_self, lies_union, lies_without}
use mathlib.Core.Logic.{◌⊎◌, inl, inr}

-- the enciphered flakes are held afterwards
pub enciphered-stays : (way : Way) (r : Record) (f : ℕ) → bit (enciphered way r) f ≡ true → bit (held_after way r) f ≡ true
unfolding enciphered held_after
enciphered-stays Idle r f e = let z : false ≡ true = sym (bit-empty f) ∙ e in cc
enciphered-stays (Add t) r f e = bit-union r.held t f ∙ either_right (bit r.held f) e
enciphered-stays (Rekey t) r f e = e
enciphered-stays (Clear m) r f e = let z : false ≡ true = sym (bit-empty f) ∙ e in cc

-- after a rekey the enciphered flakes are exactly those held, and those spent
pub rekeyed_all : (way : Way) (r : Record) → rekeys way ≡ true → (held_after way r ≡ enciphered way r) × (spent_after way r ≡ enciphered way r)
unfolding enciphered held_after spent_after
rekeyed_all Idle r e = absurd (clash e refl)
rekeyed_all (Add t) r e = absurd (clash e refl)
rekeyed_all (Rekey t) r e = (refl, refl)
rekeyed_all (Clear m) r e = absurd (clash e refl)

-- a discard clears held bits, and keeps all else; an idle nugget keeps all
pub idle_keeps : (head : ℕ) (r : Record) → (keycount_after Idle r ≡ r.keycount) × (spent_after Idle r ≡ r.spent) × (epoch_after Idle head r ≡ r.epoch)
unfolding keycount_after spent_after epoch_after
idle_keeps head r = (refl, refl, refl)

pub cleared_keeps : (m head : ℕ) (r : Record)
    → (keycount_after (Clear m) r ≡ r.keycount) × (spent_after (Clear m) r ≡ r.spent) × (epoch_after (Clear m) head r ≡ r.epoch)
unfolding keycount_after spent_after epoch_after
cleared_keeps m head r = (refl, refl, refl)

-- a nugget whose way is to add had none of the touched flakes, and its epoch is the head's
pub add-fresh : (r : Record) (t head u : ℕ) → way_of r t head ≡ Add u → (u ≡ t) × (share_none r.spent u ≡ true) × (r.epoch ≡ head)
unfolding way_of
add-fresh r t head u = go (eqb t 0) (share_none r.spent t) (eqb r.epoch head) refl refl
  where
    go : (a b d : Bool) → share_none r.spent t ≡ b → eqb r.epoch head ≡ d → pick a Idle (pick (both b d) (Add t) (Rekey t)) ≡ Add u
        → (u ≡ t) × (share_none r.spent u ≡ true) × (r.epoch ≡ head)
    go true b d p q e = let z : ◌≡◌ {A = ℕ} 0 1 = cc in absurd (omega arith)
    go false true true p q e = let w : u ≡ t = cc in (w, rw w p, eqb-true r.epoch head q)
    go false true false p q e = let z : ◌≡◌ {A = ℕ} 0 1 = cc in absurd (omega arith)
    go false false d p q e = let z : ◌≡◌ {A = ℕ} 0 1 = cc in absurd (omega arith)

-- a write's way touches T
pub way_touched : (r : Record) (t head : ℕ) → touched_by (way_of r t head) ≡ t
unfolding way_of
way_touched r t head = go (eqb t 0) (both (share_none r.spent t) (eqb r.epoch head)) refl
  where
    go : (a b : Bool) → eqb t 0 ≡ a → touched_by (pick a Idle (pick b (Add t) (Rekey t))) ≡ t
    go true b e = sym (eqb-true t 0 e)
    go false true e = refl
    go false false e = refl

-- and clears nothing
pub way_clears : (r : Record) (t head : ℕ) → cleared_by (way_of r t head) ≡ 0
unfolding way_of
way_clears r t head = go (eqb t 0) (both (share_none r.spent t) (eqb r.epoch head))
  where
    go : (a b : Bool) → cleared_by (pick a Idle (pick b (Add t) (Rekey t))) ≡ 0
    go true b = refl
    go false true = refl
    go false false = refl

-- keycounts never fall
pub keycount-rises : (way : Way) (r : Record) → r.keycount ≤ keycount_after way r
unfolding keycount_after
keycount-rises Idle r = le_refl r.keycount
keycount-rises (Add t) r = le_refl r.keycount
keycount-rises (Rekey t) r = omega arith
keycount-rises (Clear m) r = le_refl r.keycount

-- and rise by one at most
pub keycount-step : (way : Way) (r : Record) → keycount_after way r ≤ r.keycount + 1
unfolding keycount_after
keycount-step Idle r = omega arith
keycount-step (Add t) r = omega arith
keycount-step (Rekey t) r = le_refl (r.keycount + 1)
keycount-step (Clear m) r = omega arith

epoch_after_lem : (way : Way) (gauge : Gauge) (r : Record) → epoch_fits gauge r.epoch ≡ true → epoch_fits gauge (epoch_after way gauge.epoch r) ≡ true
unfolding epoch_after
epoch_after_lem Idle gauge r e = e
epoch_after_lem (Add t) gauge r e = e
epoch_after_lem (Rekey t) gauge r e = rw (eq-eqb gauge.epoch gauge.epoch refl)
epoch_after_lem (Clear m) gauge r e = e

-- what the tests of a well-formed record say
pub formed-spent : (p : ℕ) (gauge : Gauge) (r : Record) → well_formed p gauge r ≡ true → r.spent < 2 ^ p
unfolding well_formed
formed-spent p gauge r e = ltb-true r.spent (2 ^ p) (both_left (none_from p r.spent) _ e)

pub formed_lies : (p : ℕ) (gauge : Gauge) (r : Record) → well_formed p gauge r ≡ true → lies_in r.held r.spent ≡ true
unfolding well_formed
formed_lies p gauge r e = both_left (lies_in r.held r.spent) _ (both_right (none_from p r.spent) _ e)

pub formed-held : (p : ℕ) (gauge : Gauge) (r : Record) → well_formed p gauge r ≡ true → r.held < 2 ^ p
formed-held p gauge r e = lies_lt p r.held r.spent (formed_lies p gauge r e) (formed-spent p gauge r e)

-- its epoch and its keycount against the head's numbers
formed-head : (p : ℕ) (gauge : Gauge) (r : Record) → well_formed p gauge r ≡ true → both (epoch_fits gauge r.epoch) (not_above gauge r.keycount) ≡ true
unfolding well_formed
formed-head p gauge r e = both_right (lies_in r.held r.spent) _ (both_right (none_from p r.spent) _ e)

pub formed-fits : (p : ℕ) (gauge : Gauge) (r : Record) → well_formed p gauge r ≡ true → epoch_fits gauge r.epoch ≡ true
formed-fits p gauge r e = both_left (epoch_fits gauge r.epoch) (not_above gauge r.keycount) (formed-head p gauge r e)

pub formed-keycount : (p : ℕ) (gauge : Gauge) (r : Record) → well_formed p gauge r ≡ true → r.keycount ≤ gauge.counter
formed-keycount p gauge r e =
    leb-true r.keycount gauge.counter (both_right (epoch_fits gauge r.epoch) (not_above gauge r.keycount) (formed-head p gauge r e))

pub formed-epoch : (p : ℕ) (gauge : Gauge) (r : Record) → well_formed p gauge r ≡ true
    → (r.epoch ≡ gauge.epoch) ⊎ ((gauge.changing ≡ true) × (r.epoch + 1 ≡ gauge.epoch))
formed-epoch p gauge r e =
    go (either-told (eqb r.epoch gauge.epoch) (both gauge.changing (eqb (r.epoch + 1) gauge.epoch)) (formed-fits p gauge r e))
  where
    go : (eqb r.epoch gauge.epoch ≡ true) ⊎ (both gauge.changing (eqb (r.epoch + 1) gauge.epoch) ≡ true)
        → (r.epoch ≡ gauge.epoch) ⊎ ((gauge.changing ≡ true) × (r.epoch + 1 ≡ gauge.epoch))
    go (inl d) = inl (eqb-true r.epoch gauge.epoch d)
    go (inr d) =
        let less = eqb (r.epoch + 1) gauge.epoch in
        inr (both_left gauge.changing less d, eqb-true (r.epoch + 1) gauge.epoch (both_right gauge.changing less d))

-- and a record that passes them is well formed
pub formed-by : (p : ℕ) (gauge : Gauge) (r : Record) → none_from p r.spent ≡ true → lies_in r.held r.spent ≡ true
    → epoch_fits gauge r.epoch ≡ true → r.keycount ≤ gauge.counter → well_formed p gauge r ≡ true
unfolding well_formed
formed-by p gauge r none lies fits low = both-on none (both-on lies (both-on fits (le-leb r.keycount gauge.counter low)))

-- the masks afterwards
spent_after_lem : (p : ℕ) (way : Way) (r : Record) → touched_by way < 2 ^ p → r.spent < 2 ^ p → r.held < 2 ^ p → spent_after way r < 2 ^ p
unfolding spent_after
spent_after_lem p Idle r t s h = s
spent_after_lem p (Add u) r t s h = or_lt p r.spent u s t
spent_after_lem p (Rekey u) r t s h = or_lt p r.held u h t
spent_after_lem p (Clear m) r t s h = s

held_after_lem : (p : ℕ) (way : Way) (r : Record) → touched_by way < 2 ^ p → r.held < 2 ^ p → held_after way r < 2 ^ p
unfolding held_after
held_after_lem p Idle r t h = h
held_after_lem p (Add u) r t h = or_lt p r.held u h t
held_after_lem p (Rekey u) r t h = or_lt p r.held u h t
held_after_lem p (Clear m) r t h = without-lt p r.held m h

pub lies_after : (way : Way) (r : Record) → lies_in r.held r.spent ≡ true → lies_in (held_after way r) (spent_after way r) ≡ true
unfolding spent_after held_after
lies_after Idle r e = e
lies_after (Add t) r e = lies_union r.held r.spent t e
lies_after (Rekey t) r e = lies_self (union r.held t)
lies_after (Clear m) r e = lies_without r.held r.spent m e

one-after : (way : Way) (r : Record) → cleared_by way ≡ 0 → r.spent ≡ r.held → spent_after way r ≡ held_after way r
unfolding spent_after held_after
one-after Idle r z e = e
one-after (Add t) r z e = rw e refl
one-after (Rekey t) r z e = refl
one-after (Clear m) r z e = e ∙ sym (rw z (without-none r.held))

-- the record afterwards is well formed, under a counter one higher, where the one before was
pub well_formed-after : (p : ℕ) (way : Way) (gauge : Gauge) (r : Record) → touched_by way < 2 ^ p
    → well_formed p gauge r ≡ true → well_formed p (against gauge.epoch gauge.changing (gauge.counter + 1)) (turned way gauge.epoch r) ≡ true
well_formed-after p way gauge r h e =
    let few = spent_after_lem p way r h (formed-spent p gauge r e) (formed-held p gauge r e) in
    formed-by p (against gauge.epoch gauge.changing (gauge.counter + 1)) (turned way gauge.epoch r)
    (lt-ltb (spent_after way r) (2 ^ p) few) (lies_after way r (formed_lies p gauge r e))
    (epoch_after_lem way gauge r (formed-fits p gauge r e))
    (omega (arith, keycount-step way r, formed-keycount p gauge r e))

keycount_width_lem : (way : Way) (r : Record) → r.keycount < 2 ^ 64 → CanRise way r → keycount_after way r < 2 ^ 64
unfolding keycount_after
keycount_width_lem Idle r w e = w
keycount_width_lem (Add u) r w e = w
keycount_width_lem (Rekey u) r w e = omega (arith, e refl)
keycount_width_lem (Clear m) r w e = w

epoch_width_lem : (way : Way) (head : ℕ) (r : Record) → r.epoch < 2 ^ 16 → head < 2 ^ 16 → epoch_after way head r < 2 ^ 16
unfolding epoch_after
epoch_width_lem Idle head r w h = w
epoch_width_lem (Add u) head r w h = w
epoch_width_lem (Rekey u) head r w h = h
epoch_width_lem (Clear m) head r w h = w

-- and its bytes tell it, below the keycount's top
pub codes_after : (s : Shape) (way : Way) (head : ℕ) (r : Record) → Codes s r → touched_by way < 2 ^ 64 → head < 2 ^ 16 → CanRise way r → MayClear s way
    → Codes s (turned way head r)
codes_after s way head r w t h e may =
    record {
      keycount_width = keycount_width_lem way r w.keycount_width e;
      spent_width = spent_after_lem 64 way r t w.spent_width w.held_width;
      held_width = held_after_lem 64 way r t w.held_width;
      epoch_width = epoch_width_lem way head r w.epoch_width h;
      one_mask = λ one. one-after way r (may one) (w.one_mask one);
    }

-- the way, by its tests
module _ (r : Record) (t head : ℕ) where
  pub way_idle : t ≡ 0 → way_of r t head ≡ Idle
  unfolding way_of
  way_idle e = rw (eq-eqb t 0 e)

  pub way_add : {none : Bool} → (t ≡ 0 → ⊥) → none ≡ share_none r.spent t → none ≡ true → r.epoch ≡ head → way_of r t head ≡ Add t
  unfolding way_of
  way_add z e n h = rw (ne_eqb t 0 z, ← e, n, eq-eqb r.epoch head h)

  pub way_left : {none : Bool} → (t ≡ 0 → ⊥) → none ≡ share_none r.spent t → none ≡ true → (r.epoch ≡ head → ⊥) → way_of r t head ≡ Rekey t
  unfolding way_of
  way_left z e n h = rw (ne_eqb t 0 z, ← e, n, ne_eqb r.epoch head h)

  pub way_shared : {none : Bool} → (t ≡ 0 → ⊥) → none ≡ share_none r.spent t → none ≡ false → way_of r t head ≡ Rekey t
  unfolding way_of
  way_shared z e n = rw (ne_eqb t 0 z, ← e, n)

-- the record afterwards, by the way
pub turned-idle : (way : Way) (head : ℕ) (r : Record) → way ≡ Idle → r ≡ turned way head r
unfolding keycount_after spent_after held_after epoch_after
turned-idle way head r e = rw e refl

pub turned-add : (way : Way) (head : ℕ) (r : Record) (t : ℕ) {j k : ℕ} → way ≡ Add t → j ≡ union r.spent t → k ≡ union r.held t
    → ◌≡◌ {A = Record} (record { keycount = r.keycount; spent = j; held = k; epoch = r.epoch }) (turned way head r)
unfolding keycount_after spent_after held_after epoch_after
turned-add way head r t e d q = rw (e, d, q)

pub turned-rekey : (way : Way) (head : ℕ) (r : Record) (t : ℕ) {j : ℕ} → way ≡ Rekey t → j ≡ union r.held t
    → ◌≡◌ {A = Record} (record { keycount = r.keycount + 1; spent = j; held = j; epoch = head }) (turned way head r)
unfolding keycount_after spent_after held_after epoch_after
turned-rekey way head r t e d = rw (e, d)

pub turned_clear : (way : Way) (head : ℕ) (r : Record) (m : ℕ) {k : ℕ} → way ≡ Clear m → k ≡ without r.held m
    → ◌≡◌ {A = Record} (record { keycount = r.keycount; spent = r.spent; held = k; epoch = r.epoch }) (turned way head r)
unfolding keycount_after spent_after held_after epoch_after
turned_clear way head r m e q = rw (e, q)
