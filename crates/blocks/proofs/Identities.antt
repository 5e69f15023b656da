-- Distinct identities: row by row against those before, as opening tests them, and of a whole list, as the grammar says.
use mathlib.Core.Path.{◌≡◌, refl, sym, ap, ◌∙◌}
use mathlib.Core.Logic.{◌⊎◌, inl, inr, ⊎_elim}
use mathlib.Core.List.Memᴰ
use mathlib.Core.List.{List, [], ◌∷◌, ◌++◌, Memᴰ}
use Prim.Native.Nat.{ℕ}
use native.Mathlib.Omega.{arith}
use lib.IntN.{ℤ, pos, negsuc}
use Rattle.scan.proofs.Decides.{Decides, fails, decides_and, decides_or, decides_not, decides_by, eqb_decides}
use Rattle.blocks.specs.Cases.{Repeats}
use Rattle.blocks.specs.Grammar.{Rules, SameIdentity, DistinctIdentities}
use Rattle.blocks.specs.Places.{kind_2}
use Rattle.blocks.specs.Opening.{same_number, same_identity, identity_among, repeats}
use Rattle.blocks.specs.declared.Row.{Row}
use Rattle.blocks.proofs.Roles.{Named}

-- ---- The tests

pub number_decides : (a b : ℤ) → Decides (a ≡ b) (same_number a b)
unfolding same_number
number_decides (pos m) (pos n) = decides_by (ap pos) (λ e. cc) (eqb_decides m n)
number_decides (pos m) (negsuc n) = fails (λ e. let z : ◌≡◌ {A = ℕ} 0 1 = cc in omega arith)
number_decides (negsuc m) (pos n) = fails (λ e. let z : ◌≡◌ {A = ℕ} 0 1 = cc in omega arith)
number_decides (negsuc m) (negsuc n) = decides_by (ap negsuc) (λ e. cc) (eqb_decides m n)

-- The three values are the same.
pub record SameValues (x y : Row) : Type 0 where
  pub instance : x.instance ≡ y.instance
  pub sequence : x.sequence ≡ y.sequence
  pub memory : x.memory ≡ y.memory

values_decides : (x y : Row) → Decides (SameValues x y) (same_identity x y)
unfolding same_identity
values_decides x y =
    decides_by (λ h. record { instance = h.0; sequence = h.1.0; memory = h.1.1 }) (λ h. (h.instance, (h.sequence, h.memory)))
    (decides_and (eqb_decides x.instance y.instance)
    (decides_and (number_decides x.sequence y.sequence) (number_decides x.memory y.memory)))

among_decides : (x : Row) (rows : List Row) → Decides ((y : Row) × Memᴰ y rows × SameValues y x) (identity_among x rows)
unfolding identity_among
among_decides x [] = fails (λ h. Memᴰ.not-nil h.1)
among_decides x (r ∷ rows) =
    decides_by
    (λ d. ⊎_elim (λ v. (r, Memᴰ.head refl, v)) (λ h. (h.0, Memᴰ.tail h.1, h.2)) d)
    (λ h. ⊎_elim (λ e. inl (rw e at h.2)) (λ m. inr (h.0, m, h.2)) (Memᴰ.cases_cons h.1))
    (decides_or (values_decides r x) (among_decides x rows))

-- The rows of blocks under some rules.
abbrev pub AllNamed : Rules → List Row → Type 0
AllNamed r rows = (y : Row) → Memᴰ y rows → Named r y

-- A row repeats an identity exactly if the test says so.
pub repeats_decides : {r : Rules} (rows : List Row) (x : Row) → AllNamed r rows → Named r x → Decides (Repeats r rows x) (repeats rows x)
unfolding repeats
repeats_decides rows x all named =
    decides_by
    (λ h. let v = h.1.2 in
    let other = named.is.0 h.0 in
    let one = (all h.1.0 h.1.1).is.0 (λ z. h.0 (sym v.instance ∙ z)) in
    record {
      kind = other.0;
      row = h.1.0;
      member = h.1.1;
      same = record { one = one.1; other = other.1; sequence = v.sequence; instance = v.instance; memory = v.memory };
    })
    (λ h. let a = h.same in
    (named.is.1 (h.kind, a.other), (h.row, h.member, record { instance = a.instance; sequence = a.sequence; memory = a.memory })))
    (decides_and (decides_not (eqb_decides x.instance 0)) (among_decides x rows))

-- ---- One by one, and all

pub member_left : {x : Row} (l m : List Row) → Memᴰ x l → Memᴰ x (l ++ m)
member_left [] m h = absurd (Memᴰ.not-nil h)
member_left (y ∷ l) m h = ⊎_elim (λ e. Memᴰ.head e) (λ t. Memᴰ.tail (member_left l m t)) (Memᴰ.cases_cons h)

pub member_middle : (l : List Row) (x : Row) (m : List Row) → Memᴰ x (l ++ (x ∷ m))
member_middle [] x m = Memᴰ.head refl
member_middle (y ∷ l) x m = Memᴰ.tail (member_middle l x m)

pub in_last : {y : Row} (l : List Row) (x : Row) → Memᴰ y (l ++ (x ∷ [])) → Memᴰ y l ⊎ (y ≡ x)
in_last [] x m = ⊎_elim inr (λ t. absurd (Memᴰ.not-nil t)) (Memᴰ.cases_cons m)
in_last (z ∷ l) x m =
    ⊎_elim (λ e. inl (Memᴰ.head e)) (λ t. ⊎_elim (λ u. inl (Memᴰ.tail u)) inr (in_last l x t)) (Memᴰ.cases_cons m)

module _ {r : Rules} where
  -- A row among distinct ones repeats none before it.
  pub distinct_middle : (rows : List Row) (x : Row) (xs : List Row) → (r.kind ≡ kind_2 → DistinctIdentities (rows ++ (x ∷ xs)))
      → Repeats r rows x → ⊥
  distinct_middle rows x xs d h = go rows (d h.kind) h.member
    where
      go : (rows : List Row) → DistinctIdentities (rows ++ (x ∷ xs)) → Memᴰ h.row rows → ⊥
      go [] d m = Memᴰ.not-nil m
      go (y ∷ rows) d m =
          ⊎_elim (λ e. d.0 x (member_middle rows x xs) (rw e at h.same)) (λ t. go rows d.1 t) (Memᴰ.cases_cons m)

  -- And one more that repeats none leaves them distinct.
  pub distinct_more : (rows : List Row) (x : Row) → (r.kind ≡ kind_2 → DistinctIdentities rows) → (Repeats r rows x → ⊥)
      → r.kind ≡ kind_2 → DistinctIdentities (rows ++ (x ∷ []))
  distinct_more rows x d n k = go rows (d k) (λ y m a. n (record { kind = k; row = y; member = m; same = a }))
    where
      only : {y z : Row} → y ≡ x → SameIdentity z y → SameIdentity z x
      only e a = rw e at a

      go : (rows : List Row) → DistinctIdentities rows → ((y : Row) → Memᴰ y rows → SameIdentity y x → ⊥)
          → DistinctIdentities (rows ++ (x ∷ []))
      go [] d n = ((λ y m a. Memᴰ.not-nil m), tt)
      go (z ∷ rows) d n = (
        (λ y m a. ⊎_elim (λ t. d.0 y t a) (λ e. n z (Memᴰ.head refl) (only e a)) (in_last rows x m)),
        go rows d.1 (λ y m a. n y (Memᴰ.tail m) a),
      )
