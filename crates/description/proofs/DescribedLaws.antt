-- A description that is answered is valid for the size of its block's data.
use Rattle.std.specs.Prelude.{Option, None, Some, Ok, Err}
use Rattle.scan.specs.Outcome.{Outcome, present, require, ◌>>=◌, ◌>>◌}
use mathlib.Core.Path.{◌≡◌, refl, sym, ap, subst}
use mathlib.Core.Bool.{Bool, true, false, cond, not, ◌&&◌}
use mathlib.Core.List.{List, [], ◌∷◌, ◌++◌}
use mathlib.Core.Logic.{◌⊎◌, inl, inr}
use Prim.Native.Nat.{ℕ, zero, suc, ◌+◌, ◌*◌, ◌≤◌, ◌<◌}
use native.Mathlib.Nat.{mul-pos}
use native.Mathlib.Omega.{arith}
use borrow.Author.Tests.{leb-true}
use lib.Dec.{leb, eqb}
use lib.IntN.{ℤ, pos, negsuc}
use lib.ListN.{length, get_or, take}
use Rattle.scan.specs.Byte.{ascii, same}
use Rattle.scan.proofs.Cases.{none_some, ok-failed}
use Rattle.text.specs.Number.{whole_number}
use Rattle.keyword.specs.Keyword.{View}
use Rattle.keyword.specs.Viewing.{value_in}
use Rattle.origins.specs.Fields.{by_name}
use Rattle.origins.specs.Origins.{FieldOrigins, origins_in}
use Rattle.raster.specs.Axis.{configurations}
use Rattle.raster.specs.Position.{product}
use Rattle.raster.specs.Types.{types, type_of, type_words, order_words, compression_words, code_from, code_of}
use Rattle.description.specs.Describe.{Values, dim_values, dims_of, words_of, description_with, offset_allowed, described, description_in}
use Rattle.description.specs.Fields.{word_field, in_range, range_field, whole_field, found_first, dims_from, or_empty}
use Rattle.description.specs.Limits.{most_dims, dim_limit}
use Rattle.description.specs.Valid.{ValidArray}
use Rattle.description.specs.declared.Description.{Description}
use Rattle.description.specs.declared.words.Words.{Words}

-- ---- Steps of a `do` block that ends in a value

module _ {A B : Type 0} where
  pub step_ok : (o : Outcome A) (go : A → Outcome B) (y : B) → o >>= go ≡ Ok y → (x : A) × (o ≡ Ok x) × (go x ≡ Ok y)
  step_ok (Ok x) go y e = (x, refl, e)
  step_ok (Err r) go y e = absurd (ok-failed (sym e))

  pub check_ok : (o : Outcome A) (rest : Outcome B) (y : B) → o >> rest ≡ Ok y → (x : A) × (o ≡ Ok x) × (rest ≡ Ok y)
  check_ok (Ok x) rest y e = (x, refl, e)
  check_ok (Err r) rest y e = absurd (ok-failed (sym e))

pub required : (b : Bool) (code position : ℕ) (x : Unit {0}) → require b code position ≡ Ok x → b ≡ true
required true code position x e = refl
required false code position x e = absurd (ok-failed (sym e))

pub same_ok : {A : Type 0} {x y : A} → ◌≡◌ {A = Outcome A} (Ok x) (Ok y) → x ≡ y
same_ok e = cc

-- ---- Words

code_in : (code : ℕ) (words : List (List ℕ)) (v : List ℕ) (c : ℕ) → code_from code words v ≡ Some c → (code ≤ c) × (c < code + length words)
unfolding code_from
code_in code [] v c e = absurd (none_some e)
code_in code (w ∷ ws) v c e = at (same v w) e (code_in (suc code) ws v c)
  where
    at : (b : Bool) → cond b (Some code) (code_from (suc code) ws v) ≡ Some c
        → (code_from (suc code) ws v ≡ Some c → (suc code ≤ c) × (c < suc code + length ws)) → (code ≤ c) × (c < code + suc (length ws))
    at true q more = let z : code ≡ c = cc in omega arith
    at false q more = let k = more q in omega arith

-- A code is that of one of the words.
word_in : (field : ℕ) (words : List (List ℕ)) (default n : ℕ) (o : Option (List ℕ)) (c : ℕ) → length words ≡ n → 1 ≤ default → default ≤ n
    → word_field field words default o ≡ Ok c → (1 ≤ c) × (c ≤ n)
unfolding word_field code_of
word_in field words default n None c e low high q = let z : default ≡ c = cc in omega arith
word_in field words default n (Some v) c e low high q = at (code_from 1 words v) refl q
  where
    at : (r : Option ℕ) → code_from 1 words v ≡ r → present r 17 field ≡ Ok c → (1 ≤ c) × (c ≤ n)
    at None p q = absurd (ok-failed (sym q))
    at (Some k) p q = let z : k ≡ c = cc in let h = code_in 1 words v k p in omega arith

-- ---- Numbers

range_in : (most code field : ℕ) (z : Option ℤ) (n : ℕ) → present (in_range 1 most z) code field ≡ Ok n → (1 ≤ n) × (n ≤ most)
range_in most code field None n e = absurd (ok-failed (sym e))
range_in most code field (Some (pos k)) n e = at (leb 1 k) (leb k most) refl refl e
  where
    at : (a b : Bool) → leb 1 k ≡ a → leb k most ≡ b → present (cond (a && b) (Some k) None) code field ≡ Ok n → (1 ≤ n) × (n ≤ most)
    at true true p q r = let z : k ≡ n = cc in omega (arith, leb-true 1 k p, leb-true k most q)
    at true false p q r = absurd (ok-failed (sym r))
    at false b p q r = absurd (ok-failed (sym r))
range_in most code field (Some (negsuc k)) n e = absurd (ok-failed (sym e))

field_in : (field most : ℕ) (o : Option (List ℕ)) (n : ℕ) → 1 ≤ most → range_field field most 1 o ≡ Ok n → (1 ≤ n) × (n ≤ most)
unfolding range_field
field_in field most None n h e = let z : ◌≡◌ {A = ℕ} 1 n = cc in omega arith
field_in field most (Some v) n h e = range_in most 18 field (whole_number v) n e

-- ---- Dims

abbrev Dims : List ℕ → Type 0
Dims [] = Unit {0}
Dims (d ∷ ds) = ((1 ≤ d) × (d ≤ dim_limit)) × Dims ds

dims_in : (vs : List (List ℕ)) (ds : List ℕ) → dims_from vs ≡ Ok ds → Dims ds × (length ds ≡ length vs)
unfolding dims_from
dims_in [] [] e = (tt, refl)
dims_in [] (d ∷ ds) e = let z : ◌≡◌ {A = ℕ} 0 1 = cc in absurd (omega arith)
dims_in (v ∷ vs) ds e =
    let p = step_ok (present (in_range 1 dim_limit (whole_number v)) 18 4) _ ds e in
    let q = step_ok (dims_from vs) _ ds p.2 in
    let m = dims_in vs q.0 q.1 in
    let r = range_in dim_limit 18 4 (whole_number v) p.0 p.1 in
    subst (λ (l : List ℕ). Dims l × (length l ≡ suc (length vs))) (same_ok q.2) ((r, m.0), ap suc m.1)

found_few : (os : List (Option (List ℕ))) → length (found_first os) ≤ length os
unfolding found_first
found_few [] = omega arith
found_few (None ∷ os) = omega arith
found_few (Some v ∷ os) = let h = found_few os in omega arith

-- The Dims of a description, by their number.
record DimsOf (dims : List ℕ) : Type 0 where
  at_least_one : 1 ≤ length dims
  few : length dims ≤ most_dims
  some1 : (1 ≤ get_or dims 0 1) ⊎ ((get_or dims 0 1 ≡ 0) × (length dims ≡ 1))
  some2 : 1 ≤ get_or dims 1 1
  some3 : 1 ≤ get_or dims 2 1
  most : (get_or dims 0 1 ≤ dim_limit) × (get_or dims 1 1 ≤ dim_limit) × (get_or dims 2 1 ≤ dim_limit)
  past2 : length dims < 2 → get_or dims 1 1 ≡ 1
  past3 : length dims < 3 → get_or dims 2 1 ≡ 1
  all : take (length dims) (get_or dims 0 1 ∷ get_or dims 1 1 ∷ get_or dims 2 1 ∷ []) ≡ dims

dims_of_lem : (ds : List ℕ) → Dims ds → length ds ≤ most_dims → DimsOf (or_empty ds)
dims_of_lem [] h few =
    record {
      at_least_one = omega arith;
      few = omega arith;
      some1 = inr (refl, refl);
      some2 = omega arith;
      some3 = omega arith;
      most = (omega arith, omega arith, omega arith);
      past2 = λ l. refl;
      past3 = λ l. refl;
      all = refl;
    }
dims_of_lem (a ∷ []) ((h, k), t) few =
    record {
      at_least_one = omega arith;
      few = omega arith;
      some1 = inl h;
      some2 = omega arith;
      some3 = omega arith;
      most = (k, omega arith, omega arith);
      past2 = λ l. refl;
      past3 = λ l. refl;
      all = refl;
    }
dims_of_lem (a ∷ b ∷ []) ((h, k), ((h2, k2), t)) few =
    record {
      at_least_one = omega arith;
      few = omega arith;
      some1 = inl h;
      some2 = h2;
      some3 = omega arith;
      most = (k, k2, omega arith);
      past2 = λ l. absurd (omega arith);
      past3 = λ l. refl;
      all = refl;
    }
dims_of_lem (a ∷ b ∷ c ∷ []) ((h, k), ((h2, k2), ((h3, k3), t))) few =
    record {
      at_least_one = omega arith;
      few = omega arith;
      some1 = inl h;
      some2 = h2;
      some3 = h3;
      most = (k, k2, k3);
      past2 = λ l. absurd (omega arith);
      past3 = λ l. absurd (omega arith);
      all = refl;
    }
dims_of_lem (a ∷ b ∷ c ∷ e ∷ ds) h few = absurd (omega arith)

dims_valid : (look : Values) (dims : List ℕ) → dims_of look ≡ Ok dims → DimsOf dims
unfolding dims_of
dims_valid look dims e =
    let p = step_ok (dims_from (found_first (dim_values look))) _ dims e in
    let fourth = length (found_first (dim_values look ++ (look (ascii "Dim_4") ∷ []))) in
    let q = check_ok (require (not (eqb fourth (suc most_dims))) 19 0) (Ok (or_empty p.0)) dims p.2 in
    let m = dims_in (found_first (dim_values look)) p.0 p.1 in
    let f = found_few (dim_values look) in
    subst DimsOf (same_ok q.2) (dims_of_lem p.0 m.0 (omega (arith, m.1)))

-- ---- The description

configurations_some : (n : ℕ) → 1 ≤ configurations n
unfolding configurations
configurations_some zero = omega arith
configurations_some (suc n) = mul-pos {m = 2 * suc n} (omega arith) (configurations_some n)

words_valid : (look : Values) (w : Words) → words_of (by_name look) ≡ Ok w
    → ((1 ≤ w.datatype) × (w.datatype ≤ 10)) × ((1 ≤ w.byteorder) × (w.byteorder ≤ 2))
unfolding words_of type_words types order_words
words_valid look w e =
    let p = step_ok (word_field 1 type_words 7 (look (ascii "DataType"))) _ w e in
    let q = step_ok (word_field 2 order_words 1 (look (ascii "ByteOrder"))) _ w p.2 in
    let r = step_ok (word_field 3 compression_words 1 (look (ascii "Compression")))
    (λ (c : ℕ). Ok (record { datatype = p.0; byteorder = q.0; compression = c })) w q.2 in
    let t = word_in 1 type_words 7 10 (look (ascii "DataType")) p.0 refl (omega arith) (omega arith) p.1 in
    let o = word_in 2 order_words 1 2 (look (ascii "ByteOrder")) q.0 refl (omega arith) (omega arith) q.1 in
    subst (λ (x : Words). ((1 ≤ x.datatype) × (x.datatype ≤ 10)) × ((1 ≤ x.byteorder) × (x.byteorder ≤ 2))) (same_ok r.2) (t, o)

pub described_valid : (look : Values) (origins : FieldOrigins) (size : ℕ) (d : Description) → described look origins size ≡ Ok d → ValidArray d size
unfolding described
described_valid look origins size d e =
    let p = step_ok (words_of (by_name look)) _ d e in
    let q = step_ok (dims_of look) _ d p.2 in
    let most = configurations (length q.0) in
    let r = step_ok (range_field 5 most 1 (look (ascii "DataRasterConfiguration"))) _ d q.2 in
    let s = step_ok (range_field 6 most 1 (look (ascii "RasterOrientation"))) _ d r.2 in
    let t = step_ok (whole_field 7 (pos 0) (look (ascii "DataValueOffset"))) _ d s.2 in
    let type = type_of p.0.datatype in
    let u = check_ok (require (leb (product q.0 * type.width) size) 20 0) _ d t.2 in
    let v = check_ok (require (offset_allowed type.class t.0) 21 0)
    (Ok (description_with p.0 q.0 r.0 s.0 t.0 origins)) d u.2 in
    let words = words_valid look p.0 p.1 in
    let m = dims_valid look q.0 q.1 in
    let c = field_in 5 most (look (ascii "DataRasterConfiguration")) r.0 (configurations_some (length q.0)) r.1 in
    let room = leb-true (product q.0 * type.width) size (required _ 20 0 u.0 u.1) in
    subst (λ (x : Description). ValidArray x size) (same_ok v.2)
    (record {
      type_known = words.0;
      order_known = words.1;
      at_least_one = m.at_least_one;
      few = m.few;
      some1 = m.some1;
      some2 = m.some2;
      some3 = m.some3;
      most = m.most;
      past2 = m.past2;
      past3 = m.past3;
      configured = c;
      stored = rw m.all room;
    })

-- The same of a block of a file.
pub block_valid : (v : View) (d : Description) → description_in v ≡ Ok d → ValidArray d v.row.size
unfolding description_in
block_valid v d e = let p = check_ok (require (eqb v.row.kind 1) 16 0) _ d e in described_valid (value_in v) (origins_in v) v.row.size d p.2
