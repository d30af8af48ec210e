-- Steps that every walk uses, whatever it walks.
--     twice      a shared slice is had twice, given its elements' row laws: one for the callee, one for the exit
--     told       what a callee promises, once the call has returned
--     at         the place of a local
--     lent-on    a `&mut [u8]` is lent on to the callee
--     freed      a local is freed
--     proves     a walk is taken to its function's statement
use mathlib.Core.Path.{◌≡◌, refl, sym, subst}
use Prim.Native.Nat.{ℕ, zero}
use mathlib.Core.List.{[], ◌∷◌, List}
use seplogic.Ra.Ura.{Ura}
use base.Fraction.{full_share}
use lib.ListN.{length}
use mir.Syntax.{Fn, Lifetime, Ty, named, erased, w8, mut, ty_ref, ty_int, Step as PStep, deref, field, place, copy, addr_of, aggregate, Body as Code, seq, assign}
use mir.Val.{Val, vptr}
use base.Logic.{ent, sep, via, id⊢, mono∗, mono_r}
use base.Fml.{Lft, fat, froom, fdies}
use prog.Wp.{Calls, Loops, WpFn, Closed, Env, Spot, spot_of}
use prog.Model.{Model}
use prog.Routine.{Callee, Env as Names}
use types.Logic.{Logic}
use contract.Running.{Running, tables, tables_of}
use types.Kit.{Goal, runs, frees, Post, Item, ‵, raw, some, later, ◌⊛◌, ◌$◌, Soaks, Seq, Step, step, move, use1, split, pick, await, mean, ⋆, nth, del, pull, push}
use types.Run.{Walks as Ways, Finds, look, init, stop, hop, fld, from, load, addr, and_then, no_more, assigns, free1}
use types.Part.{agg, whole, sub, look_in}
use sound.WpLaws.{FmC, fm_of, WpFn-mono}
use denote.RattleType.{RattleType, RowLaws}
use denote.Builtin.{u8}
use denote.Ref.{Bor}
use denote.Slice.{slice_ty, slice_val, Room, ShrSlice, shr_slice_vals, shr_slice_copy}
use denote.Signature.{type_at}
use denote.Triple.Entry.{Res, alive}
use denote.Triple.Spec.{triple_of}
use denote.Triple.Statement.{Triple}
use denote.Triple.Clauses.{Ended, Clauses, Lasts, at_exit, lasts, closing}
use denote.Triple.Table.{entered}
use denote.Triple.Walked.{Stays, AllGo, Walks, walk_Meets}

module _ {M : Type 1} {𝓤 : Ura M} {𝓛 : Logic 𝓤} {K : Type 0} {Γ : List (Item 𝓤)} {G : Goal 𝓤 𝓛.H} where
  pub twice : K → (R : RattleType) (L : RowLaws R) (ℓ : Lifetime) (κ : Lft) (x : Bor (List R.Denot))
      → Step K 𝓛 (‵ ((ShrSlice ℓ κ R).own_val x (shr_slice_vals x)) ∷ ‵ ((ShrSlice ℓ κ R).own_val x (shr_slice_vals x)) ∷ Γ) G (‵ ((ShrSlice ℓ κ R).own_val x (shr_slice_vals x)) ∷ Γ) G
  twice t R L ℓ κ x = step (λ s. use1 𝓛 (‵ ((ShrSlice ℓ κ R).own_val x (shr_slice_vals x)) ⊛ ‵ ((ShrSlice ℓ κ R).own_val x (shr_slice_vals x))) ((shr_slice_copy 𝓛 ℓ κ R L).twice x (shr_slice_vals x)) $ split t $ s)

  pub told : K → Soaks G → (S : Ended) (c : Clauses 𝓤 S) (y : (triple_of 𝓛 S.signature (closing 𝓛 S c)).Ghost) {v : Val}
      → ((r : Res S.signature y.0.0) (ws : Lasts S y.0.0 y.0.3)
      → Seq K 𝓛 (raw ((c y.0.0 y.0.3).ensures y.1 r (at_exit S y.0.0 y.0.3 ws)) ∷ ‵ (lasts S y.0.0 y.0.3 ws) ∷ raw (alive 𝓛 S.signature y.0.0 y.0.1) ∷ ‵ ((type_at S.signature.result y.0.0).own_val r (v ∷ [])) ∷ Γ) G)
      → Seq K 𝓛 (raw ((triple_of 𝓛 S.signature (closing 𝓛 S c)).post y v) ∷ Γ) G
  told t z S c y {v} k =
      use1 𝓛 (later (some (λ (r : Res S.signature y.0.0). (raw (alive 𝓛 S.signature y.0.0 y.0.1) ⊛ ‵ ((type_at S.signature.result y.0.0).own_val r (v ∷ [])))
      ⊛ some (λ (ws : Lasts S y.0.0 y.0.3). ‵ (lasts S y.0.0 y.0.3 ws) ⊛ raw ((c y.0.0 y.0.3).ensures y.1 r (at_exit S y.0.0 y.0.3 ws)))))) (id⊢ 𝓤 _) $
      await t z $ pick t (λ r. split t $ move t (1 ∷ []) $ pick t (λ ws. split t $ move t (2 ∷ []) $ split t $ move t (3 ∷ 2 ∷ []) $ k r ws))

module _ {M : Type 1} {𝓤 : Ura M} {𝓛 : Logic 𝓤} {K : Type 0} {Γ : List (Item 𝓤)} {E : Env 𝓤 𝓛.H} where
  -- the place of local i, which lies at sp
  open 𝓛 use {H}

  pub at : K → {i : ℕ} {sp sp' : Spot 𝓤 H} {st : List PStep} → spot_of 𝓤 H E i ≡ sp → Ways K 𝓛 Γ E sp st sp' → Finds K 𝓛 Γ E (place i st) sp'
  at t {sp' = sp'} {st = st} e w = from t (subst (λ (s : Spot 𝓤 H). Ways K 𝓛 Γ E s st sp') (sym e) w)

module _ {M : Type 1} {𝓤 : Ura M} {𝓛 : Logic 𝓤} {K : Type 0} {Γ : List (Item 𝓤)} {C : Calls 𝓤 𝓛.H} {Λ : Loops 𝓤 𝓛.H} {E : Env 𝓤 𝓛.H} {q : Post 𝓤 𝓛.H} {rest : Code} {i j k : Item 𝓤} {x y z l l₁ l₂ n : ℕ} where
  open 𝓛 use {H}

  pub lent_on : K → (v : Bor (List ℕ)) → Room u8 (length v.now) → spot_of 𝓤 H E x ≡ (slice_ty (ty_ref (named n) mut (ty_int w8)), l, zero) → spot_of 𝓤 H E y ≡ (ty_ref erased mut (ty_int w8), l₁, zero) → spot_of 𝓤 H E z ≡ (slice_ty (ty_ref erased mut (ty_int w8)), l₂, zero)
      → Step K 𝓛
      (‵ (fat full_share (slice_ty (ty_ref (named n) mut (ty_int w8))) l zero (slice_val v.ref_ptr (length v.now))) ∷ i ∷ ‵ (fat full_share (ty_ref erased mut (ty_int w8)) l₁ zero (vptr v.ref_ptr.0 v.ref_ptr.1)) ∷ j ∷ ‵ (fat full_share (slice_ty (ty_ref erased mut (ty_int w8))) l₂ zero (slice_val v.ref_ptr (length v.now))) ∷ k ∷ Γ)
      (runs C Λ E rest q)
      (‵ (fat full_share (slice_ty (ty_ref (named n) mut (ty_int w8))) l zero (slice_val v.ref_ptr (length v.now))) ∷ i ∷ ‵ (froom (ty_ref erased mut (ty_int w8)) l₁ zero) ∷ j ∷ ‵ (froom (slice_ty (ty_ref erased mut (ty_int w8))) l₂ zero) ∷ k ∷ Γ)
      (runs C Λ E (seq (assign (place y []) (addr_of (place x (field 0 ∷ deref (ty_int w8) ∷ [])))) (seq (assign (place z []) (aggregate (copy (place y []) ∷ copy (place x (field 1 ∷ [])) ∷ []))) rest)) q)
  lent_on t v room e e₁ e₂ = step (λ s.
      assigns t (addr t (at t e (fld t refl (hop t (look_in t 0 (sub t 0 refl (whole t))) (stop t))))) (at t e₁ (stop t)) (init t 2 refl (tt, tt)) $
      assigns t (agg t (and_then t (load t (at t e₁ (stop t)) (look t 2 refl)) (and_then t (load t (at t e (fld t refl (stop t))) (look_in t 0 (sub t 1 refl (whole t)))) (no_more t)))) (at t e₂ (stop t)) (init t 4 refl (tt, (tt, (record { fits = room.0 }, tt)))) $ s)

module _ {M : Type 1} {𝓤 : Ura M} {𝓛 : Logic 𝓤} {K : Type 0} {Γ : List (Item 𝓤)} where
  open 𝓛 use {H}

  pub freed : K → (n : ℕ) {τ : Ty} {b : ℕ} {v : Val} {E : Env 𝓤 H} {g : Goal 𝓤 H} → nth 𝓛 n Γ ≡ ‵ (fat full_share τ b zero v) → nth 𝓛 n (del 𝓛 n Γ) ≡ ‵ (fdies τ b)
      → Step K 𝓛 (del 𝓛 n (del 𝓛 n Γ)) (frees E g) Γ (frees ((τ, b) ∷ E) g)
  freed t n {τ} {b} {v} e f = step (λ s. record {
    prf =
        via 𝓤 (sep 𝓤 (H.at full_share τ b zero v) (⋆ 𝓛 (del 𝓛 n Γ))) (subst (λ (j : Item 𝓤). ent 𝓤 (⋆ 𝓛 Γ) (sep 𝓤 (mean 𝓛 j) (⋆ 𝓛 (del 𝓛 n Γ)))) e (pull 𝓛 n Γ))
        (via 𝓤 (sep 𝓤 (H.room τ b zero) (sep 𝓤 (H.dies τ b) (⋆ 𝓛 (del 𝓛 n (del 𝓛 n Γ)))))
        (mono∗ 𝓤 (𝓛.laws.at_room τ b zero v) (subst (λ (j : Item 𝓤). ent 𝓤 (⋆ 𝓛 (del 𝓛 n Γ)) (sep 𝓤 (mean 𝓛 j) (⋆ 𝓛 (del 𝓛 n (del 𝓛 n Γ))))) f (pull 𝓛 n (del 𝓛 n Γ))))
        (via 𝓤 (⋆ 𝓛 (‵ (froom τ b zero) ∷ ‵ (fdies τ b) ∷ del 𝓛 n (del 𝓛 n Γ))) (mono_r 𝓤 (H.room τ b zero) (push 𝓛 (‵ (fdies τ b)) (del 𝓛 n (del 𝓛 n Γ)))) (free1 t $ s).prf));
  })

module _ {M : Type 1} {𝓤 : Ura M} (𝓛 : Logic 𝓤) (𝓜 : Model 𝓤 𝓛.H) (𝓡 : Running 𝓤 𝓛.H 𝓜) (S : Ended) (hs : Stays S.signature.params S.kept) (c : Clauses 𝓤 S) (γ : Names) (k : Callee) (f : Fn) where
  open 𝓛 use {H}

  pub proves : AllGo 𝓛 S.signature.lifetimes S.signature.params S.kept hs → Closed 𝓤 H (tables 𝓤 H 𝓜 𝓡 γ).C (tables 𝓤 H 𝓜 𝓡 γ).Λ k f
      → (FmC 𝓤 H 𝓛.laws (tables 𝓤 H 𝓜 𝓡 γ).C → Walks 𝓛 S hs (WpFn 𝓤 H (tables 𝓤 H 𝓜 𝓡 γ).C (tables 𝓤 H 𝓜 𝓡 γ).Λ f) c)
      → Triple 𝓤 ((tables 𝓤 H 𝓜 𝓡 γ).C k) (triple_of 𝓛 S.signature (closing 𝓛 S c))
  unfolding tables_of
  proves go closed walks =
      entered 𝓤 H (triple_of 𝓛 S.signature (closing 𝓛 S c)) (tables 𝓤 H 𝓜 𝓡 γ).C (tables 𝓤 H 𝓜 𝓡 γ).Λ k f closed
      (walk_Meets 𝓛 S hs go c (WpFn 𝓤 H (tables 𝓤 H 𝓜 𝓡 γ).C (tables 𝓤 H 𝓜 𝓡 γ).Λ f)
      (WpFn-mono 𝓤 H 𝓛.laws (tables_of 𝓤 H 𝓜 (tables 𝓤 H 𝓜 𝓡 γ)) f) (walks (fm_of 𝓤 H 𝓛.laws (tables_of 𝓤 H 𝓜 (tables 𝓤 H 𝓜 𝓡 γ)))))
