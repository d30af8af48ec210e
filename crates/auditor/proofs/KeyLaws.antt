-- The key's word, by the epoch of a well-formed record, and the secret that it names.
use mathlib.Core.Path.{◌≡◌, refl}
use mathlib.Core.Bool.{Bool, true, false}
use mathlib.Core.Logic.{◌⊎◌, inl, inr}
use Prim.Native.Nat.{ℕ, ◌+◌}
use native.Mathlib.Omega.{arith}
use lib.Dec.{eqb}
use borrow.Author.Tests.{ne_eqb, eqb-true}
use Rattle.base.specs.Pick.{pick, both}
use Rattle.base.specs.Lists.{same}
use Rattle.base.proofs.PickLaws.{told, clash, both_left, both_right}
use Rattle.records.specs.Record.{epoch_fits}
use Rattle.drive.specs.declared.Drive.{Drive}
use Rattle.drive.specs.Drive.{gauge_of, is_changing}
use Rattle.nuggets.specs.Nugget.{secret_for}
use Rattle.pages.specs.Words.{t_new, t_old, t_present}
use Rattle.pages.specs.Page.{key_text}
use Rattle.auditor.specs.Question.{key_word, secret_named}

-- a well-formed epoch is the head's, or one less
one_less : (d : Drive) (e : ℕ) → epoch_fits (gauge_of d) e ≡ true → eqb e d.epoch ≡ false → eqb (e + 1) d.epoch ≡ true
one_less d e fits ne =
    let h : both (is_changing d.state) (eqb (e + 1) d.epoch) ≡ true = rw ne at fits in
    both_right (is_changing d.state) (eqb (e + 1) d.epoch) h

not_less : (d : Drive) (e : ℕ) → eqb e d.epoch ≡ true → eqb (e + 1) d.epoch ≡ false
not_less d e h = ne_eqb (e + 1) d.epoch (λ z. omega (arith, z, eqb-true e d.epoch h))

pub key_word_lem : (d : Drive) (e : ℕ) → epoch_fits (gauge_of d) e ≡ true → key_text d e ≡ key_word d e
unfolding key_text key_word
key_word_lem d e fits = go (told (eqb e d.epoch))
  where
    go : (eqb e d.epoch ≡ true) ⊎ (eqb e d.epoch ≡ false)
        → pick (eqb e d.epoch) (pick (is_changing d.state) t_new t_present) t_old ≡ pick (eqb (e + 1) d.epoch) t_old (pick (is_changing d.state) t_new t_present)
    go (inl h) = rw (h, not_less d e h)
    go (inr h) = rw (h, one_less d e fits h)

-- only while changing is a word `old`
pub old-word : (d : Drive) (e : ℕ) → epoch_fits (gauge_of d) e ≡ true → same (key_word d e) t_old ≡ true → is_changing d.state ≡ true
unfolding key_word same
old-word d e fits is = go (told (eqb e d.epoch))
  where
    other : (b : Bool) → same (pick b t_new t_present) t_old ≡ false
    other true = refl
    other false = refl

    go : (eqb e d.epoch ≡ true) ⊎ (eqb e d.epoch ≡ false) → is_changing d.state ≡ true
    go (inl h) = absurd (clash (rw (not_less d e h) at is) (other (is_changing d.state)))
    go (inr h) =
        let less : both (is_changing d.state) (eqb (e + 1) d.epoch) ≡ true = rw h at fits in
        both_left (is_changing d.state) (eqb (e + 1) d.epoch) less

pub secret_named_lem : (d : Drive) (e : ℕ) → epoch_fits (gauge_of d) e ≡ true → secret_for d e ≡ secret_named d (key_word d e)
unfolding secret_for secret_named key_word same
secret_named_lem d e fits = go (told (eqb e d.epoch))
  where
    state : (b : Bool) → d.present ≡ pick (same (pick b t_new t_present) t_old) d.old d.present
    state true = refl
    state false = refl

    go : (eqb e d.epoch ≡ true) ⊎ (eqb e d.epoch ≡ false)
        → pick (eqb e d.epoch) d.present d.old ≡ pick (same (pick (eqb (e + 1) d.epoch) t_old (pick (is_changing d.state) t_new t_present)) t_old) d.old d.present
    go (inl h) = rw (h, not_less d e h) (state (is_changing d.state))
    go (inr h) = rw (h, one_less d e fits h)
