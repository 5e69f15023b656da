-- The role of a block, its kind and identity: `role_of` against `HasRole`.
use Rattle.std.specs.Prelude.{None, Some}
use mathlib.Core.Path.{◌≡◌, refl, sym, ap, subst, ◌∙◌}
use mathlib.Core.Bool.{Bool, true, false, not, ◌&&◌, false≢true}
use mathlib.Core.Logic.{◌≢◌, ◌⊎◌, inl, inr, ◌↔◌}
use mathlib.Core.List.{List}
use Prim.Native.Nat.{ℕ}
use native.Mathlib.Omega.{arith}
use borrow.Author.Tests.{ne_eqb, eqb-true, not-false}
use lib.Dec.{eqb}
use Rattle.scan.specs.Byte.{same}
use Rattle.scan.proofs.Cases.{by_test, by_option, none_some}
use Rattle.scan.proofs.Decides.{decided, same_decides}
use Rattle.header.specs.Entry.{Entry}
use Rattle.blocks.specs.Counting.{first}
use Rattle.blocks.specs.Grammar.{Rules, NoIdentity, HasRole, plain-block, general_block, data_block}
use Rattle.blocks.specs.Judging.{unnamed, role_of, row_with}
use Rattle.blocks.specs.Keys.{BlockIDKey}
use Rattle.blocks.specs.Places.{Kind, kind_1, kind_2}
use Rattle.blocks.specs.Reading.{identity_of}
use Rattle.blocks.specs.declared.Role.{Role}
use Rattle.blocks.specs.declared.Row.{Row}
use Rattle.blocks.proofs.Coded.{kind_number, kinds_differ, asked_of, coded, Asking}
use Rattle.blocks.proofs.Declarations.{same_itself, not_empty}
use Rattle.blocks.proofs.IdentityLaws.{identity_sound, identity_complete, identity_named}
use Rattle.blocks.proofs.PlaceLaws.{has_key, key_at, value_at}

-- Whether a block is the first of a file of a kind: in kind 2 the first stands at 0; the others do not.
pub data IsFirst (kind : Kind) : Bool → ℕ → Type 0 where
  is-first : IsFirst kind true 0
  is_plain : {start : ℕ} → kind ≡ kind_1 → IsFirst kind true start
  is_later : {start : ℕ} → start ≢ 0 → IsFirst kind false start

-- The role that a row states.
abbrev pub role_in : Row → Role
role_in row =
    record { kind = row.kind; identity = record { sequence = row.sequence; instance = row.instance; memory = row.memory } }

unnamed_is : (row : Row) (k : ℕ) → row.kind ≡ k → NoIdentity row → unnamed k ≡ role_in row
unnamed_is row k e n = λ i.
    record {
      kind = sym e i;
      identity = record { sequence = sym n.sequence i; instance = sym n.instance i; memory = sym n.memory i };
    }

-- Whether a block is general: it is the first, and data blocks are asked for.
abbrev is_general : Bool → Rules → Bool
is_general b r = b && not (eqb (asked_of r.general) 0)

module _ {r : Rules} (asking : Asking r) (two : r.kind ≡ kind_2) where
  not_plain : {A : Type 0} → r.kind ≡ kind_1 → A
  not_plain one = absurd (kinds_differ (sym one ∙ two))

  general_test : {b : Bool} {start n : ℕ} → IsFirst r.kind b start → r.general ≡ Some n → start ≡ 0 → is_general b r ≡ true
  general_test {n = n} is-first g z = rw (g, ne_eqb n 0 (asking.some_asked n g))
  general_test (is_plain one) g z = not_plain one
  general_test (is_later m) g z = absurd (m z)

  data_test : {b : Bool} {start : ℕ} → IsFirst r.kind b start → (r.general ≡ None) ⊎ (start ≢ 0) → is_general b r ≡ false
  data_test is-first (inl g) = rw g
  data_test is-first (inr n) = absurd (n refl)
  data_test (is_plain one) d = not_plain one
  data_test (is_later n) d = refl

  -- And back.
  tested_general : {b : Bool} {start : ℕ} → IsFirst r.kind b start → is_general b r ≡ true
      → ((n : ℕ) × (r.general ≡ Some n)) × (start ≡ 0)
  tested_general is-first e =
      by_option r.general (λ g. absurd (false≢true (rw g at e))) (λ n g. ((n, g), refl))
  tested_general (is_plain one) e = not_plain one
  tested_general (is_later n) e = absurd (false≢true e)

  tested_data : {b : Bool} {start : ℕ} → IsFirst r.kind b start → is_general b r ≡ false → (r.general ≡ None) ⊎ (start ≢ 0)
  tested_data is-first e =
      by_option r.general (λ g. inl g)
      (λ n g. absurd (asking.some_asked n g (eqb-true n 0 (not-false (eqb n 0) (rw g at e)))))
  tested_data (is_plain one) e = not_plain one
  tested_data (is_later n) e = inr n

module _ (r : Rules) (asking : Asking r) {b : Bool} {start : ℕ} (rank : IsFirst r.kind b start) (es : List Entry) where
  pub role_complete : {row : Row} → HasRole r start es row → role_of (coded r) b es ≡ Some (role_in row)
  unfolding role_of
  role_complete {row} (plain-block k a n) = rw k (ap Some (unnamed_is row 1 a n))
  role_complete {row} (general_block k g z a n) = rw (general_test asking k rank g z, k) (ap Some (unnamed_is row 0 a n))
  role_complete {row} (data_block k d a e i) =
      rw (data_test asking k rank d, k, key_at e, same_itself BlockIDKey, value_at e, identity_complete i)
      (ap Some (λ j. record { kind = sym a j; identity = record { sequence = row.sequence; instance = row.instance; memory = row.memory } }))

  -- The row of a role, wherever its block stands.
  pub role_sound : (role : Role) → role_of (coded r) b es ≡ Some role → (header size : ℕ) → HasRole r start es (row_with start header size role)
  unfolding role_of
  role_sound role e header size = go r.kind refl
    where
      Has : Role → Type 0
      Has x = HasRole r start es (row_with start header size x)

      none_named : {h n k : ℕ} → NoIdentity (row_with start h n (unnamed k))
      none_named = record { sequence = refl; instance = refl; memory = refl }

      go : (k : Kind) → r.kind ≡ k → Has role
      go kind_1 k =
          let q : Some (unnamed 1) ≡ Some role = rw k at e in
          let p : unnamed 1 ≡ role = cc in
          subst Has p (plain-block k refl none_named)
      go kind_2 k =
          by_test (is_general b r)
          (λ g. let q : Some (unnamed 0) ≡ Some role = rw (k, g) at e in
          let p : unnamed 0 ≡ role = cc in
          let t = tested_general asking k rank g in
          subst Has p (general_block k t.0.1 t.1 refl none_named))
          (λ g. by_test (same (first es).key BlockIDKey)
          (λ d. by_option (identity_of (first es).value)
          (λ i. absurd (none_some (rw (k, g, d, i) at e)))
          (λ i f. let q : Some (record { kind = 1; identity = i }) ≡ Some role = rw (k, g, d, f) at e in
          let p : record { kind = 1; identity = i } ≡ role = cc in
          subst Has p
          (data_block k (tested_data asking k rank g) refl (has_key es 0 (not_empty (λ z. omega arith)) (decided (same_decides _ _) d))
          (identity_sound f))))
          (λ d. absurd (none_some (rw (k, g, d) at e))))

-- ---- A row with an instance is that of a data block of kind 2

pub record Named (r : Rules) (row : Row) : Type 0 where
  pub is : (row.instance ≢ 0) ↔ ((r.kind ≡ kind_2) × (row.kind ≡ 1))

pub role_named : {r : Rules} {start : ℕ} {es : List Entry} {row : Row} → HasRole r start es row → Named r row
role_named (plain-block k a n) =
    record { is = ((λ i. absurd (i n.instance)), (λ h. absurd (omega (arith, ap kind_number (sym k ∙ h.0))))) }
role_named (general_block k g z a n) = record { is = ((λ i. absurd (i n.instance)), (λ h. absurd (omega (arith, a, h.1)))) }
role_named (data_block k d a e i) = record { is = ((λ j. (k, a)), (λ h. identity_named i)) }

-- A general block starts a file of kind 2.
module _ {r : Rules} {start : ℕ} {es : List Entry} {row : Row} where
  pub general_start : HasRole r start es row → row.kind ≡ 0 → start ≡ 0
  general_start (plain-block k a n) z = absurd (omega arith)
  general_start (general_block k g s a n) z = s
  general_start (data_block k d a e i) z = absurd (omega arith)

  pub general_two : HasRole r start es row → row.kind ≡ 0 → r.kind ≡ kind_2
  general_two (plain-block k a n) z = absurd (omega arith)
  general_two (general_block k g s a n) z = k
  general_two (data_block k d a e i) z = absurd (omega arith)
