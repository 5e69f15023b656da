-- Bytes put into a buffer, one run after another.
use mathlib.Core.Path.{◌≡◌, refl, sym, ap, subst, ◌∙◌}
use mathlib.Core.List.{List, [], ◌∷◌, ◌++◌, append_assoc, append-nil}
use Prim.Native.Nat.{ℕ, zero, suc, ◌+◌, ◌≤◌}
use native.Mathlib.Nat.{not-suc-le-zero, le_of_suc-le-suc}
use native.Mathlib.Omega.{arith}
use lib.ListN.{length, take, drop, length-append, length-take, length-drop, take-append-drop, drop_of_length-le}
use lib.Seq.{drop-drop, take_at, drop_at}
use Rattle.scan.specs.Buffer.{over}
use Rattle.raster.specs.Strided.{patched}
use Rattle.append.specs.Append.{over_at, Appended, HasRoom, AppendedWithin}
use Rattle.append.specs.declared.appender.Appender.{Appender}

-- Bytes over the front of a part are over the front of the whole.
over-front : (w l : List ℕ) (k : ℕ) → length w ≤ k → over w (take k l) ++ drop k l ≡ over w l
over-front [] l k h = take-append-drop k l
over-front (x ∷ w) l zero h = absurd (not-suc-le-zero h)
over-front (x ∷ w) [] (suc k) h = append-nil (x ∷ w ++ [])
over-front (x ∷ w) (y ∷ l) (suc k) h = ap (λ (r : List ℕ). x ∷ r) (over-front w l k (le_of_suc-le-suc h))

-- A part of the buffer was lent, and its front holds the bytes.
pub part_appended : (w d last : List ℕ) (at k next : ℕ) → last ≡ over w (take k (drop at d)) → length w ≤ k → next ≡ at + length w
    → next ≤ length d → Appended w at d (patched at k d last) next
unfolding over_at
part_appended w d last at k next e h n room =
    record {
      next_is = n;
      room = room;
      holds = ap (λ (l : List ℕ). take at d ++ l)
          (ap (λ (l : List ℕ). l ++ drop k (drop at d)) e ∙ over-front w (drop at d) k h);
    }

-- One run after another.
then_at : (w v d : List ℕ) (at : ℕ) → at ≤ length d → over_at (at + length w) v (over_at at w d) ≡ over_at at (w ++ v) d
unfolding over_at
then_at w v d at h =
    let front = take at d ++ w in
    let rest = drop (length w) (drop at d) in
    let n : length front ≡ at + length w = simp (length-append, length-take) (omega arith) in
    let split : take at d ++ (w ++ rest) ≡ front ++ rest = sym (append_assoc (take at d) w rest) in
    ap (λ (l : List ℕ). take (at + length w) l ++ over v (drop (at + length w) l)) split
    ∙ (λ i. take_at front rest (at + length w) n i ++ over v (drop_at front rest (at + length w) n i))
    ∙ append_assoc (take at d) w (over v rest)
    ∙ ap (λ (l : List ℕ). take at d ++ (w ++ (v ++ l)))
    (drop-drop (length v) (length w) (drop at d) ∙ ap (λ (k : ℕ). drop k (drop at d)) (sym (length-append w v)))
    ∙ ap (λ (l : List ℕ). take at d ++ l) (sym (append_assoc w v (drop (length (w ++ v)) (drop at d))))

over_at_length : (w d : List ℕ) (at : ℕ) → at + length w ≤ length d → length (over_at at w d) ≡ length d
unfolding over_at
over_at_length w d at h = simp (length-append, length-take, length-drop) (omega arith)

pub appended_length : {w d e : List ℕ} {at next : ℕ} → Appended w at d e next → length e ≡ length d
appended_length {w} {d} {at = at} a = ap length a.holds ∙ over_at_length w d at (omega (arith, a.next_is, a.room))

pub appended_then : {w v d e l : List ℕ} {at next end : ℕ} → Appended w at d e next → Appended v next e l end → Appended (w ++ v) at d l end
appended_then {w} {v} {d} {e} {l} {at} {next} a b =
    record {
      next_is = omega (arith, a.next_is, b.next_is, length-append w v);
      room = omega (arith, b.room, appended_length a);
      holds = b.holds ∙ ap (λ (x : List ℕ). over_at next v x) a.holds ∙ ap (λ (k : ℕ). over_at k v (over_at at w d)) a.next_is
          ∙ then_at w v d at (omega (arith, a.next_is, a.room));
    }

-- At the front of the buffer.
pub appended_front : {w d e : List ℕ} {next : ℕ} → Appended w 0 d e next → e ≡ over w d
unfolding over_at
appended_front a = a.holds

-- ---- A part that is written whole

over_all : (w d : List ℕ) → length d ≤ length w → over w d ≡ w
over_all w d h = ap (λ (l : List ℕ). w ++ l) (drop_of_length-le d h) ∙ append-nil w

pub whole_appended : (w d last : List ℕ) (at k next : ℕ) → last ≡ w → k ≡ length w → next ≡ at + length w → next ≤ length d
    → Appended w at d (patched at k d last) next
whole_appended w d last at k next e h n room =
    part_appended w d last at k next
    (e ∙ sym (over_all w (take k (drop at d)) (simp (length-take, length-drop) (omega arith)))) (omega arith) n room

-- ---- Parts of what was appended

-- Nothing.
pub appended_nothing : (d : List ℕ) (at : ℕ) → at ≤ length d → Appended [] at d d at
unfolding over_at
appended_nothing d at h = record { next_is = omega arith; room = h; holds = sym (take-append-drop at d) }

-- What stands in front of the offset that was answered.
pub front_is : {w d e : List ℕ} {next : ℕ} → Appended w 0 d e next → take next e ≡ w
unfolding over_at
front_is {w} {d} {e} {next} a =
    ap (take next) a.holds ∙ take_at w (drop (length w) d) next (omega (arith, a.next_is))

-- ---- At most so many bytes

pub within : {w : List ℕ} {a b : Appender} → Appended w a.at a.bytes.now b.bytes.now b.at → b.bytes.ghost_name ≡ a.bytes.ghost_name
    → AppendedWithin (length w) w a b
within x h = record { appended = x; upper_bound = omega (arith, x.next_is); same_length = appended_length x; same_buffer = h }

-- No more than they are.
pub within_exact : {m : ℕ} {w : List ℕ} {a b : Appender} → AppendedWithin m w a b → AppendedWithin (length w) w a b
within_exact x = within x.appended x.same_buffer

-- Nothing.
pub within_nothing : {m : ℕ} {a : Appender} → HasRoom m a → AppendedWithin m [] a a
within_nothing {a = a} h =
    record { appended = appended_nothing a.bytes.now a.at (omega (arith, h)); upper_bound = omega arith; same_length = refl; same_buffer = refl }

-- One run after another.
pub within_then : {m k : ℕ} {w v : List ℕ} {a b c : Appender} → AppendedWithin m w a b → AppendedWithin k v b c → AppendedWithin (m + k) (w ++ v) a c
within_then x y =
    record {
      appended = appended_then x.appended y.appended;
      upper_bound = omega (arith, x.upper_bound, y.upper_bound);
      same_length = y.same_length ∙ x.same_length;
      same_buffer = y.same_buffer ∙ x.same_buffer;
    }

-- The same of equal bytes.
pub within_is : {m : ℕ} {w v : List ℕ} {a b : Appender} → w ≡ v → AppendedWithin m w a b → AppendedWithin m v a b
within_is {m} {a = a} {b} q x = subst (λ (l : List ℕ). AppendedWithin m l a b) q x

pub within_more : {m k : ℕ} {w : List ℕ} {a b : Appender} → m ≤ k → AppendedWithin m w a b → AppendedWithin k w a b
within_more h x =
    record { appended = x.appended; upper_bound = omega (arith, h, x.upper_bound); same_length = x.same_length; same_buffer = x.same_buffer }

-- From the front of a buffer, which then is `e`.
pub within_front : {m : ℕ} {w d e : List ℕ} {a b : Appender} → a.bytes.now ≡ d → a.at ≡ 0 → b.bytes.now ≡ e → AppendedWithin m w a b
    → Appended w 0 d e b.at
within_front {w = w} {e = e} {a = a} {b} same front after x =
    let moved = subst (λ (k : ℕ). Appended w k a.bytes.now b.bytes.now b.at) front x.appended in
    subst (λ (l : List ℕ). Appended w 0 l e b.at) same (subst (λ (l : List ℕ). Appended w 0 a.bytes.now l b.at) after moved)
