-- `trimmed` gives just the trimmed bytes: where they stand, and what they are.
use mathlib.Core.Path.{◌≡◌, refl, ap}
use mathlib.Core.Bool.{true, false}
use mathlib.Core.Logic.{◌↔◌}
use mathlib.Core.List.{List, [], ◌∷◌, ◌++◌, append_assoc, append-nil}
use Prim.Native.Nat.{ℕ, zero, suc, ◌+◌, ◌-◌, ◌≤◌}
use native.Mathlib.Omega.{arith}
use lib.ListN.{length, length-append}
use lib.Seq.{get_or-append_seam, get_or-append-add}
use Rattle.scan.specs.Byte.{byte, bytes_at}
use Rattle.scan.proofs.Cases.{by_test}
use Rattle.text.specs.Value.{leading, trimmed_end, trimmed}
use Rattle.text.specs.Whitespace.{whitespace}
use Rattle.text.proofs.Parts.{each_nil, each_cons, each_head, each_tail, each-byte}
use Rattle.text.proofs.Trims.{trimmed_end_inside}
use Rattle.lexical.specs.Value.{AllWhitespace, VisibleEnds, TightEnds, empty, visible, Trimmed}
use Rattle.lexical.proofs.PartLaws.{Part, span_of, part_bytes}

-- ---- What stands in the relation is found

leading_skips : (front rest : List ℕ) → AllWhitespace front → leading (front ++ rest) ≡ length front + leading rest
unfolding leading
leading_skips [] rest h = omega arith
leading_skips (b ∷ front) rest h = rw (each_head h) (omega (arith, leading_skips front rest (each_tail h)))

leading_stops : {l : List ℕ} (back : List ℕ) → VisibleEnds l → leading (l ++ back) ≡ 0
unfolding leading
leading_stops back h = rw (h.starts, h.first_visible)

-- The last visible byte, with whitespace after it.
module _ (s : List ℕ) (last : ℕ) (back : List ℕ) (h : whitespace last ≡ false) (w : AllWhitespace back) where
  end_after_last : (m : ℕ) → m ≤ length back → trimmed_end (s ++ (last ∷ back)) (m + suc (length s)) ≡ suc (length s)
  unfolding trimmed_end
  end_after_last zero i =
      let e : 0 + suc (length s) ≡ suc (length s) = omega arith in
      rw (e, get_or-append_seam s last back 0, h)
  end_after_last (suc m) i =
      let e : suc m + suc (length s) ≡ suc (m + suc (length s)) = omega arith in
      let f : m + suc (length s) ≡ length s + suc m = omega arith in
      let white : whitespace (byte (s ++ (last ∷ back)) (m + suc (length s))) ≡ true =
      rw (f, get_or-append-add s (last ∷ back) (suc m) 0) (each-byte back w m i) in
      rw (e, white) (end_after_last m (omega arith))

  end_at_last : trimmed_end (s ++ (last ∷ back)) (length (s ++ (last ∷ back))) ≡ suc (length s)
  end_at_last =
      let e : length (s ++ (last ∷ back)) ≡ length back + suc (length s) = omega (arith, length-append s (last ∷ back)) in
      rw e (end_after_last (length back) (omega arith))

tight_leading : {l back : List ℕ} → TightEnds l back → leading (l ++ back) ≡ 0
unfolding leading
tight_leading empty = refl
tight_leading (visible {l} {back} h) = leading_stops back h

tight_end : (front : List ℕ) {l back : List ℕ} → TightEnds l back → AllWhitespace back
    → trimmed_end (front ++ (l ++ back)) (length (front ++ (l ++ back))) - length front ≡ length l
tight_end front empty w = omega (arith, trimmed_end_inside (front ++ []) (length (front ++ [])), length-append front [])
tight_end front (visible {l} {back} h) w =
    let s = front ++ h.before in
    let e : front ++ (l ++ back) ≡ s ++ (h.last ∷ back) = rw h.ends (simp append_assoc) in
    rw (e, end_at_last s h.last back h.last_visible w)
    (omega (arith, length-append front h.before, ap length h.ends, length-append h.before (h.last ∷ [])))

module _ {raw : List ℕ} {offset : ℕ} {l : List ℕ} (h : Trimmed raw offset l) where
  pub trimmed_part : Part raw offset l
  trimmed_part = record { front = h.front; back = h.back; is = h.is; stands = h.stands }

  pub trimmed-span : trimmed raw ≡ span_of offset l
  unfolding trimmed
  trimmed-span =
      let o : leading raw ≡ offset =
      rw h.is (omega (arith, leading_skips h.front (l ++ h.back) h.front_whitespace, tight_leading h.tight, h.stands)) in
      let n : trimmed_end raw (length raw) - offset ≡ length l =
      rw (h.is, h.stands) (tight_end h.front h.tight h.back_whitespace) in
      rw (o, n)

  pub trimmed-length : length l ≡ (trimmed raw).length
  trimmed-length = rw trimmed-span

  trimmed_only : ((trimmed raw).offset ≡ offset) × (bytes_at raw (trimmed raw) ≡ l)
  trimmed_only = (rw trimmed-span, rw trimmed-span (part_bytes trimmed_part))

-- ---- Any bytes can be trimmed

abbrev Trims : List ℕ → Type 0
Trims raw = (offset : ℕ) × (l : List ℕ) × Trimmed raw offset l

-- With one more byte in front: whitespace,
with_whitespace : {b offset : ℕ} {raw l : List ℕ} → whitespace b ≡ true → Trimmed raw offset l → Trimmed (b ∷ raw) (suc offset) l
with_whitespace {b} e h =
    record {
      front = b ∷ h.front;
      back = h.back;
      is = ap (λ (r : List ℕ). b ∷ r) h.is;
      stands = ap suc h.stands;
      front_whitespace = each_cons e h.front_whitespace;
      back_whitespace = h.back_whitespace;
      tight = h.tight;
    }

-- or a visible byte, which is then the first.
from_first : (b : ℕ) (l back : List ℕ) → AllWhitespace back → VisibleEnds (b ∷ l) → Trims (b ∷ (l ++ back))
from_first b l back w v = (
  0,
  b ∷ l,
  record {
    front = [];
    back = back;
    is = refl;
    stands = refl;
    front_whitespace = each_nil (λ x. whitespace x ≡ true);
    back_whitespace = w;
    tight = visible v;
  },
)

with_visible : (b : ℕ) (front : List ℕ) {l back : List ℕ} → whitespace b ≡ false → AllWhitespace front → AllWhitespace back
    → TightEnds l back → Trims (b ∷ (front ++ (l ++ back)))
with_visible b front e f w empty =
    rw (append-nil front) (from_first b [] front f
    (record { first = b; after = []; last = b; before = []; starts = refl; ends = refl; first_visible = e; last_visible = e }))
with_visible b front e f w (visible {l} {back} v) =
    rw (← append_assoc front l back) (from_first b (front ++ l) back w
    (record {
      first = b;
      after = front ++ l;
      last = v.last;
      before = b ∷ (front ++ v.before);
      starts = refl;
      ends = rw v.ends (simp append_assoc);
      first_visible = e;
      last_visible = v.last_visible;
    }))

trims : (raw : List ℕ) → Trims raw
trims [] = (
  0,
  [],
  record {
    front = [];
    back = [];
    is = refl;
    stands = refl;
    front_whitespace = each_nil (λ x. whitespace x ≡ true);
    back_whitespace = each_nil (λ x. whitespace x ≡ true);
    tight = empty;
  },
)
trims (b ∷ raw) =
    let r = trims raw in
    let h = r.2 in
    by_test (whitespace b) (λ e. (suc r.0, r.1, with_whitespace e h))
    (λ e. rw h.is (with_visible b h.front e h.front_whitespace h.back_whitespace h.tight))

-- ---- The function and the relation

pub trimmed_holds : (raw : List ℕ) → Trimmed raw (trimmed raw).offset (bytes_at raw (trimmed raw))
trimmed_holds raw = let r = trims raw in let o = trimmed_only r.2 in rw (o.1, o.0) r.2

pub trimmed_is : (raw : List ℕ) {offset : ℕ} {l : List ℕ}
    → (((trimmed raw).offset ≡ offset) × (bytes_at raw (trimmed raw) ≡ l)) ↔ Trimmed raw offset l
trimmed_is raw = (λ e. rw (e.1, e.0) at (trimmed_holds raw), trimmed_only)
