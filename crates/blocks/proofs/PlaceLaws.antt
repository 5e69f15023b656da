-- The functions that find a key, and those that choose which keys count, answer just what the grammar's places say.
use mathlib.Core.Path.{◌≡◌, refl, sym, ap, subst, ◌∙◌}
use mathlib.Core.Bool.{false}
use mathlib.Core.Logic.{◌↔◌, ◌≢◌}
use mathlib.Core.List.{List, [], ◌∷◌, ◌++◌, map, Memᴰ}
use Prim.Native.Nat.{ℕ, zero, suc, ◌<◌}
use native.Mathlib.Omega.{arith}
use lib.ListN.{length, get_or, take, drop, take-append-drop}
use Rattle.scan.specs.Byte.{ascii, same}
use Rattle.scan.proofs.Cases.{by_test}
use Rattle.scan.proofs.Decides.{Decides, fails, decided, refuted, passes, decides_by, same_decides}
use Rattle.scan.proofs.Finds.{Finds, found, missing, finds_by, finds_map}
use Rattle.header.specs.Entries.{lookup, value_in}
use Rattle.header.specs.Entry.{Entry}
use Rattle.header.specs.Grammar.{Distinct}
use Rattle.blocks.specs.Counting.{no_entry, first, is_edf_key, counting}
use Rattle.blocks.specs.Places.{EntryAt, here, later, HasKey, IsEdfKey, StartsWithEdfKey, Counts, CountsAs}

-- The keys of a header, each of which stands once.
pub record DistinctKeys (es : List Entry) : Type 0 where
  pub distinct : Distinct (map (λ (e : Entry). e.key) es)

-- ---- The statement at a place

pub at_get : {es : List Entry} {n : ℕ} {e : Entry} → EntryAt es n e → get_or es n no_entry ≡ e
at_get here = refl
at_get (later a) = at_get a

pub at_inside : {es : List Entry} {n : ℕ} {e : Entry} → EntryAt es n e → n < length es
at_inside here = omega arith
at_inside (later a) = omega (arith, at_inside a)

at_member : {es : List Entry} {n : ℕ} {e : Entry} → EntryAt es n e → Memᴰ e.key (map (λ (x : Entry). x.key) es)
at_member here = Memᴰ.head refl
at_member (later a) = Memᴰ.tail (at_member a)

get_at : (es : List Entry) (n : ℕ) → (get_or es n no_entry).key ≢ [] → EntryAt es n (get_or es n no_entry)
get_at [] n k = absurd (k refl)
get_at (e ∷ es) zero k = here
get_at (e ∷ es) (suc n) k = later (get_at es n k)

-- The key and the value at a place, read and stated.
pub has_key : (es : List Entry) (n : ℕ) {key : List ℕ} → key ≢ [] → (get_or es n no_entry).key ≡ key → HasKey es n key (get_or es n no_entry).value
has_key es n some e =
    record { entry = get_or es n no_entry; at = get_at es n (λ z. some (sym e ∙ z)); key_is = e; value_is = refl }

pub key_at : {es : List Entry} {n : ℕ} {key value : List ℕ} → HasKey es n key value → (get_or es n no_entry).key ≡ key
key_at h = ap (λ (e : Entry). e.key) (at_get h.at) ∙ h.key_is

pub value_at : {es : List Entry} {n : ℕ} {key value : List ℕ} → HasKey es n key value → (get_or es n no_entry).value ≡ value
value_at h = ap (λ (e : Entry). e.value) (at_get h.at) ∙ h.value_is

-- ---- EDF_ keys

pub edf_decides : (k : List ℕ) → Decides (IsEdfKey k) (is_edf_key k)
unfolding is_edf_key
edf_decides k =
    decides_by
    (λ e. record { rest = drop 4 k; is = sym (take-append-drop 4 k) ∙ ap (λ (l : List ℕ). l ++ drop 4 k) e })
    (λ h. rw h.is)
    (same_decides (take 4 k) (ascii "edf_"))

pub starts_decides : (es : List Entry) → Decides (StartsWithEdfKey es) (is_edf_key (first es).key)
unfolding is_edf_key same
starts_decides [] = fails (λ h. omega (arith, at_inside h.at))
starts_decides (e ∷ es) =
    decides_by
    (λ h. record { entry = e; at = here; edf = h })
    (λ h. subst (λ (x : Entry). IsEdfKey x.key) (sym (at_get h.at)) h.edf)
    (edf_decides e.key)

-- ---- Keys that count

-- One statement more in front, with an EDF_ key.
counts_more : {x e : Entry} {es : List Entry} {n : ℕ} → IsEdfKey x.key → Counts es n e → Counts (x ∷ es) (suc n) e
counts_more {x} {es = es} {n = n} k c = record { at = later c.at; edf = c.edf; before = before }
  where
    before : (m : ℕ) (y : Entry) → m < suc n → EntryAt (x ∷ es) m y → IsEdfKey y.key
    before zero y l here = k
    before (suc m) y l (later a) = c.before m y (omega arith) a

-- The first of them, or a later one.
counts_first : {x e : Entry} {es l : List Entry} {n : ℕ} → IsEdfKey x.key → ((m : ℕ) → EntryAt l m e → Counts es m e) → EntryAt (x ∷ l) n e
    → Counts (x ∷ es) n e
counts_first k rest here = record { at = here; edf = k; before = λ m y l b. absurd (omega arith) }
counts_first k rest (later {n = n} b) = counts_more k (rest n b)

counts_sound : (es : List Entry) {n : ℕ} {e : Entry} → EntryAt (counting es) n e → Counts es n e
unfolding counting
counts_sound [] a = absurd (omega (arith, at_inside a))
counts_sound (x ∷ es) a =
    by_test (is_edf_key x.key)
    (λ t. counts_first (decided (edf_decides x.key) t) (λ m b. counts_sound es b) (rw t at a))
    (λ f. absurd (omega (arith, at_inside (rw f at a))))

counts_complete : {es : List Entry} {n : ℕ} {e : Entry} → Counts es n e → EntryAt (counting es) n e
unfolding counting
counts_complete c = go c.at c
  where
    go : {es : List Entry} {n : ℕ} {e : Entry} → EntryAt es n e → Counts es n e → EntryAt (counting es) n e
    go (here {e = e}) c = rw (passes (edf_decides e.key) c.edf) here
    go (later {x = x} {n = n} a) c =
        rw (passes (edf_decides x.key) (c.before 0 x (omega arith) here))
        (later (go a (record { at = a; edf = c.edf; before = λ m y l b. c.before (suc m) y (omega arith) (later b) })))

-- `counting` gives just the statements that count, each at its place.
pub counting_is : (es : List Entry) {n : ℕ} {e : Entry} → EntryAt (counting es) n e ↔ Counts es n e
counting_is es = (counts_sound es, counts_complete)

-- ---- A key looked up

-- In a list, the entry of a key at any place, and its value.
abbrev pub EntryIn : List Entry → List ℕ → Entry → Type 0
EntryIn es key e = (n : ℕ) × EntryAt es n e × (e.key ≡ key)

abbrev pub KeyIn : List Entry → List ℕ → List ℕ → Type 0
KeyIn es key value = (n : ℕ) × HasKey es n key value

pub finds_entry : (key : List ℕ) (es : List Entry) → Finds (EntryIn es key) (lookup key es)
unfolding lookup
finds_entry key [] = missing (λ e h. omega (arith, at_inside h.1))
finds_entry key (e ∷ es) =
    by_test (same e.key key)
    (λ t. rw t (found (0, here, decided (same_decides e.key key) t)))
    (λ f. rw f (finds_by (λ x h. (suc h.0, later h.1, h.2)) (λ x h. back f h.1 h.2) (finds_entry key es)))
  where
    back : {n : ℕ} {x : Entry} → same e.key key ≡ false → EntryAt (e ∷ es) n x → x.key ≡ key → EntryIn es key x
    back f here k = absurd (refuted (same_decides e.key key) f k)
    back f (later {n = n} a) k = (n, a, k)

pub finds_key : (key : List ℕ) (es : List Entry) → Finds (KeyIn es key) (value_in key es)
finds_key key es =
    finds_by
    (λ v h. (h.1.0, record { entry = h.0; at = h.1.1; key_is = h.1.2; value_is = h.2 }))
    (λ v h. (h.1.entry, (h.0, h.1.at, h.1.key_is), h.1.value_is))
    (finds_map (λ (e : Entry). e.value) (finds_entry key es))

pub finds_counting : (key : List ℕ) (es : List Entry) → Finds (CountsAs es key) (value_in key (counting es))
finds_counting key es =
    finds_by
    (λ v h. record { number = h.0; entry = h.1.entry; counts = counts_sound es h.1.at; key_is = h.1.key_is; value_is = h.1.value_is })
    (λ v c. (c.number, record { entry = c.entry; at = counts_complete c.counts; key_is = c.key_is; value_is = c.value_is }))
    (finds_key key (counting es))

-- ---- A key stands once

pub one_at : {es : List Entry} {m n : ℕ} {x y : Entry} → Distinct (map (λ (e : Entry). e.key) es) → EntryAt es m x → EntryAt es n y → x.key ≡ y.key → x ≡ y
one_at d here here e = refl
one_at d here (later b) e = absurd (d.0 (rw e (at_member b)))
one_at d (later a) here e = absurd (d.0 (rw (sym e) (at_member a)))
one_at d (later a) (later b) e = one_at d.1 a b e

module _ {es : List Entry} (keys : DistinctKeys es) {key v w : List ℕ} where
  one_value : {m n : ℕ} {x y : Entry} → EntryAt es m x → EntryAt es n y → x.key ≡ key → y.key ≡ key → x.value ≡ v → y.value ≡ w → v ≡ w
  one_value a b k l p q =
      let e = one_at keys.distinct a b (k ∙ sym l) in
      sym p ∙ ap (λ (x : Entry). x.value) e ∙ q

  pub one_key : KeyIn es key v → KeyIn es key w → v ≡ w
  one_key a b = one_value a.1.at b.1.at a.1.key_is b.1.key_is a.1.value_is b.1.value_is

  pub one_counting : CountsAs es key v → CountsAs es key w → v ≡ w
  one_counting a b = one_value a.counts.at b.counts.at a.key_is b.key_is a.value_is b.value_is
