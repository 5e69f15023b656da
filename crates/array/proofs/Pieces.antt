-- A part of a piece of a list that is joined of pieces of one length.
use mathlib.Core.Path.{◌≡◌, sym, ap, ◌∙◌}
use mathlib.Core.List.{List, [], ◌++◌, append-nil}
use Prim.Native.Nat.{ℕ, ◌+◌, ◌*◌, ◌≤◌, ◌<◌}
use native.Mathlib.Omega.{arith}
use lib.ListN.{length, take, drop, take-append-drop, length-drop}
use lib.Seq.{drop-drop, take-append-le, drop-append-le}
use Rattle.raster.specs.Bytes.{joined}
use Rattle.raster.proofs.Joined.{joined_piece}

-- The first bytes of a list are p: so is a part of them.
part_front : (w at v : ℕ) (p l : List ℕ) → length p ≡ w → take w l ≡ p → at + v ≤ w → take v (drop at l) ≡ take v (drop at p)
part_front w at v p l long e h =
    let whole : p ++ drop w l ≡ l = ap (λ (q : List ℕ). q ++ drop w l) (sym e) ∙ take-append-drop w l in
    let inside : v ≤ length (drop at p) = simp length-drop (omega arith) in
    ap (λ (q : List ℕ). take v (drop at q)) (sym whole)
    ∙ ap (take v) (drop-append-le at p (drop w l) (omega arith)) ∙ take-append-le v (drop at p) (drop w l) inside

pub piece_part : (w n k : ℕ) (f : ℕ → List ℕ) → ((i : ℕ) → length (f i) ≡ w) → k < n → (at v : ℕ) → at + v ≤ w
    → take v (drop (k * w + at) (joined n f)) ≡ take v (drop at (f k))
piece_part w n k f each h at v room =
    let piece : take w (drop (k * w) (joined n f)) ≡ f k =
    ap (λ (l : List ℕ). take w (drop (k * w) l)) (sym (append-nil (joined n f))) ∙ joined_piece w f each n k [] h in
    ap (take v) (sym (drop-drop at (k * w) (joined n f))) ∙ part_front w at v (f k) (drop (k * w) (joined n f)) (each k) piece room
