-- Lines of a page, by computation.
use mathlib.Core.Path.{◌≡◌, refl}
use mathlib.Core.List.{[], ◌∷◌}
use Prim.Native.Nat.{ℕ}
use Rattle.records.specs.Journal.{bit}
use Rattle.drive.specs.declared.Drive.{Drive}
use Rattle.drive.specs.declared.State.{State}
use Rattle.drive.specs.declared.State.TheVariants.{Steady, Changing}
use Rattle.line.specs.Decimal.{digits, width_in, decimal, long_decimal}
use Rattle.pages.specs.Page.{key_text, present_flakes, others, flakes_text, nugget_text, counter_text, old_state, old_text}

-- a drive with two flakes to a nugget
abbrev pub drive : State → ℕ → Drive
drive state epoch =
    record { n = 3; p = 2; f = 64; version = 1; cipher = 0; salt = []; state = state; epoch = epoch; counter = 5; node = []; present = []; old = [] }

-- `nugget=2 key=old epoch=1 keycount=0 flakes=0,1`
pub left : nugget_text (drive (Changing 1) 2) (record { keycount = 0; spent = 3; held = 3; epoch = 1 }) 2 ≡ 110 ∷ 117 ∷ 103 ∷ 103 ∷ 101 ∷ 116 ∷ 61 ∷ 50 ∷ 32 ∷ 107 ∷ 101 ∷ 121 ∷ 61 ∷ 111 ∷ 108 ∷ 100 ∷ 32 ∷ 101 ∷ 112 ∷ 111 ∷ 99 ∷ 104 ∷ 61 ∷ 49 ∷ 32 ∷ 107 ∷ 101 ∷ 121 ∷ 99 ∷ 111 ∷ 117 ∷ 110 ∷ 116 ∷ 61 ∷ 48 ∷ 32 ∷ 102 ∷ 108 ∷ 97 ∷ 107 ∷ 101 ∷ 115 ∷ 61 ∷ 48 ∷ 44 ∷ 49 ∷ []
unfolding nugget_text key_text flakes_text others present_flakes bit decimal long_decimal digits width_in
left = refl

-- `nugget=0 key=new epoch=2 keycount=1 flakes=1`
pub moved : nugget_text (drive (Changing 1) 2) (record { keycount = 1; spent = 2; held = 2; epoch = 2 }) 0 ≡ 110 ∷ 117 ∷ 103 ∷ 103 ∷ 101 ∷ 116 ∷ 61 ∷ 48 ∷ 32 ∷ 107 ∷ 101 ∷ 121 ∷ 61 ∷ 110 ∷ 101 ∷ 119 ∷ 32 ∷ 101 ∷ 112 ∷ 111 ∷ 99 ∷ 104 ∷ 61 ∷ 50 ∷ 32 ∷ 107 ∷ 101 ∷ 121 ∷ 99 ∷ 111 ∷ 117 ∷ 110 ∷ 116 ∷ 61 ∷ 49 ∷ 32 ∷ 102 ∷ 108 ∷ 97 ∷ 107 ∷ 101 ∷ 115 ∷ 61 ∷ 49 ∷ []
unfolding nugget_text key_text flakes_text others present_flakes bit decimal long_decimal digits width_in
moved = refl

-- `nugget=1 key=present epoch=2 keycount=12 flakes=-`
pub steady : nugget_text (drive Steady 2) (record { keycount = 12; spent = 0; held = 0; epoch = 2 }) 1 ≡ 110 ∷ 117 ∷ 103 ∷ 103 ∷ 101 ∷ 116 ∷ 61 ∷ 49 ∷ 32 ∷ 107 ∷ 101 ∷ 121 ∷ 61 ∷ 112 ∷ 114 ∷ 101 ∷ 115 ∷ 101 ∷ 110 ∷ 116 ∷ 32 ∷ 101 ∷ 112 ∷ 111 ∷ 99 ∷ 104 ∷ 61 ∷ 50 ∷ 32 ∷ 107 ∷ 101 ∷ 121 ∷ 99 ∷ 111 ∷ 117 ∷ 110 ∷ 116 ∷ 61 ∷ 49 ∷ 50 ∷ 32 ∷ 102 ∷ 108 ∷ 97 ∷ 107 ∷ 101 ∷ 115 ∷ 61 ∷ 45 ∷ []
unfolding nugget_text key_text flakes_text others present_flakes bit decimal long_decimal digits width_in
steady = refl

-- `counter=18446744073709551615`
pub top : counter_text 18446744073709551615 ≡ 99 ∷ 111 ∷ 117 ∷ 110 ∷ 116 ∷ 101 ∷ 114 ∷ 61 ∷ 49 ∷ 56 ∷ 52 ∷ 52 ∷ 54 ∷ 55 ∷ 52 ∷ 52 ∷ 48 ∷ 55 ∷ 51 ∷ 55 ∷ 48 ∷ 57 ∷ 53 ∷ 53 ∷ 49 ∷ 54 ∷ 49 ∷ 53 ∷ []
unfolding long_decimal digits width_in
top = refl

-- `old=needed`, with every nugget moved too: only the state decides
pub needed : old_text (drive (Changing 1) 2) ≡ 111 ∷ 108 ∷ 100 ∷ 61 ∷ 110 ∷ 101 ∷ 101 ∷ 100 ∷ 101 ∷ 100 ∷ []
unfolding old_state
needed = refl

-- `old=free`
pub unneeded : old_text (drive Steady 2) ≡ 111 ∷ 108 ∷ 100 ∷ 61 ∷ 102 ∷ 114 ∷ 101 ∷ 101 ∷ []
unfolding old_state
unneeded = refl
