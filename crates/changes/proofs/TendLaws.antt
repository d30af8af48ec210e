-- Leaves and paths renewed one nugget after another: what stands outside the tree stays, and the tree is good at the end.
use mathlib.Core.Path.{◌≡◌, refl, ap, ◌∙◌}
use mathlib.Core.Logic.{⊎_elim}
use mathlib.Core.Bool.{true, false}
use mathlib.Core.List.{List}
use Prim.Native.Nat.{ℕ, zero, suc, ◌<◌, ◌≤◌}
use native.Mathlib.Omega.{arith}
use Rattle.base.proofs.PickLaws.{yes, no, told, clash}
use Rattle.layout.specs.declared.Shape.{Shape}
use Rattle.layout.specs.Shaped.{Shaped}
use Rattle.records.specs.declared.Way.{Way}
use Rattle.nodes.specs.Alike.{Outside}
use Rattle.nodes.proofs.StoreLaws.{outside_refl, outside_trans, outside_lent}
use Rattle.tree.specs.Good.{AllGood, GoodBut}
use Rattle.tree.specs.Renewed.{renewed}
use Rattle.tree.proofs.RenewLaws.{renewed-outside, renewed_but, none_left_lem, but_more}
use Rattle.changes.specs.Change.{idles, tended, tended_to}

module _ (s : Shape) (way : Way) (n : ℕ) (w : List ℕ) where
  pub tend-idle : idles way ≡ true → tended s way n w ≡ w
  unfolding tended
  tend-idle e = yes _ e refl

  pub tend_renews : idles way ≡ false → tended s way n w ≡ renewed s n w
  unfolding tended
  tend_renews e = no _ e refl

  pub tend-outside : Shaped s w → n < s.n → Outside s w (tended s way n w)
  tend-outside l h =
      ⊎_elim (λ e. rw (tend-idle e) (outside_refl s w)) (λ e. rw (tend_renews e) (renewed-outside s n w l h)) (told (idles way))

module _ (s : Shape) (way : ℕ → Way) where
  pub tends_outside : (m : ℕ) (w : List ℕ) → Shaped s w → m ≤ s.n → Outside s w (tended_to s way m w)
  unfolding tended_to
  tends_outside zero w l h = outside_refl s w
  tends_outside (suc m) w l h =
      let first = tends_outside m w l (omega (arith, h)) in
      outside_trans first (tend-outside s (way m) m (tended_to s way m w) (outside_lent first l) (omega (arith, h)))

  pub tends_lent : (m : ℕ) (w : List ℕ) → Shaped s w → m ≤ s.n → Shaped s (tended_to s way m w)
  tends_lent m w l h = outside_lent (tends_outside m w l h) l

  -- changed nuggets from m on are left to renew
  abbrev pub LeftFrom : ℕ → ℕ → Type 0
  LeftFrom m n = (m ≤ n) × (idles (way n) ≡ false)

  pub tends_but : (m : ℕ) (w : List ℕ) → Shaped s w → m ≤ s.n → GoodBut s (LeftFrom 0) w → GoodBut s (LeftFrom m) (tended_to s way m w)
  unfolding tended_to
  tends_but zero w l h g = g
  tends_but (suc m) w l h g =
      let u = tended_to s way m w in
      let before = tends_but m w l (omega (arith, h)) g in
      let lent = tends_lent m w l (omega (arith, h)) in
      ⊎_elim
      (λ idle. rw (tend-idle s (way m) m u idle) (but_more s u (LeftFrom m) (LeftFrom (suc m)) (λ n k x. (later n x.0 (λ e. clash (ap (λ (q : ℕ). idles (way q)) e ∙ idle) x.1), x.1)) before))
      (λ moved.
      rw (tend_renews s (way m) m u moved)
      (but_more s (renewed s m u) (λ n. LeftFrom m n × (n ≡ m → ⊥)) (LeftFrom (suc m)) (λ n k x. (later n x.0.0 x.1, x.0.1))
      (renewed_but s m u lent (omega (arith, h)) (LeftFrom m) before)))
      (told (idles (way m)))
    where
      later : (n : ℕ) → m ≤ n → (n ≡ m → ⊥) → suc m ≤ n
      later n a b = omega (arith, a, b)

  -- all paths renewed: the tree is good
  pub tends_good : (w : List ℕ) → Shaped s w → GoodBut s (LeftFrom 0) w → AllGood s (tended_to s way s.n w)
  tends_good w l g =
      let u = tended_to s way s.n w in
      none_left_lem s u (but_more s u (LeftFrom s.n) (λ m. ⊥) (λ n k x. omega (arith, k, x.0)) (tends_but s.n w l (omega arith) g))
