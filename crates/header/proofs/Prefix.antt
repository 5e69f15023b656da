-- A header does not depend on what follows it: it is the same in a prefix of the file that holds it.
use mathlib.Core.Path.{◌≡◌, sym, ap, subst, ◌∙◌}
use mathlib.Core.List.{List, map}
use Prim.Native.Nat.{ℕ, suc, ◌+◌, ◌≤◌}
use native.Mathlib.Omega.{arith}
use lib.ListN.{take}
use lib.Seq.{get_or-take, take-take}
use Rattle.scan.specs.Chain.{Chain}
use Rattle.header.specs.Entry.{body_of, key}
use Rattle.header.specs.Grammar.{IsHeader, StatementFrom, OnlyWhitespace, Distinct, Parse}
use Rattle.header.specs.declared.Header.{Header}
use Rattle.header.specs.declared.Statement.{Statement}
use Rattle.header.proofs.FrameLaws.{header_inside}
use Rattle.header.proofs.Window.{start_out, start_into, end_out, end_into}

module _ (n : ℕ) (s : List ℕ) where
  header_into : {at : ℕ} {h : Header} → at + h.length ≤ n → IsHeader s at h → IsHeader (take n s) at h
  header_into {at} {h} l x =
      let inside = header_inside x in
      record {
        opening = start_into n s (omega (arith, inside, x.order)) x.opening;
        order = x.order;
        body = λ k a b. rw (get_or-take n s k 0 (omega (arith, inside))) (x.body k a b);
        closing = end_into n s l x.closing;
        short = x.short;
      }

  header_out : {at : ℕ} {h : Header} → IsHeader (take n s) at h → IsHeader s at h
  header_out {at} {h} x =
      let inside = header_inside x in
      let close = end_out n s x.closing in
      record {
        opening = start_out n s x.opening;
        order = x.order;
        body = λ k a b. rw (get_or-take n s k 0 (omega (arith, inside, close.1))) at (x.body k a b);
        closing = close.0;
        short = x.short;
      }

-- ---- Two files that start with the same n bytes

module _ (n : ℕ) (s t : List ℕ) (agree : take n s ≡ take n t) {at : ℕ} {h : Header} (inside : at + h.length ≤ n) (x : IsHeader s at h) where
  pub header_local : IsHeader t at h
  header_local = header_out n t (rw agree at (header_into n s inside x))

  pub body_local : body_of s h ≡ body_of t h
  body_local =
      let l : h.right ≤ n = omega (arith, header_inside x) in
      sym (take-take h.right n s l) ∙ ap (take h.right) agree ∙ take-take h.right n t l

  pub parse_local : {ts : List Statement} → Parse s h ts → Parse t h ts
  parse_local {ts} p = record {
    shape = subst (λ (b : List ℕ). Chain (StatementFrom b) (OnlyWhitespace b) (suc h.left) ts) body_local p.shape;
    short = λ u m. rw body_local at (p.short u m);
    distinct = subst (λ (b : List ℕ). Distinct (map (key b) ts)) body_local p.distinct;
  }
