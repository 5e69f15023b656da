-- The grammar is unambiguous: one header at most stands at an offset, and it has one parse at most. From the grammar
-- alone; no reader is named.
use mathlib.Core.Path.{◌≡◌, refl, sym, ap, ◌∙◌}
use mathlib.Core.Bool.{true, true≢false}
use mathlib.Core.List.{List}
use mathlib.Core.Logic.{◌≢◌}
use Prim.Native.Nat.{ℕ, suc, ◌≤◌, ◌<◌}
use native.Mathlib.Omega.{arith}
use borrow.Author.Tests.{eq-eqb, ne_eqb}
use Rattle.scan.specs.Byte.{byte}
use Rattle.scan.specs.First.{First}
use Rattle.scan.specs.Search.{is}
use Rattle.scan.proofs.Cases.{by_order, byte_inside}
use Rattle.scan.proofs.Chains.{Sure, chain_unique}
use Rattle.scan.proofs.Searches.{first_unique}
use Rattle.text.specs.Whitespace.{whitespace}
use Rattle.header.specs.Entry.{body_of}
use Rattle.header.specs.Grammar.{StartPattern, EndPattern, IsHeader}
use Rattle.header.specs.Grammar.{IsStatement, StatementFrom, OnlyWhitespace, Parse}
use Rattle.header.specs.declared.Header.{Header}
use Rattle.header.specs.declared.Statement.{Statement}

-- ---- The frame

module _ {s : List ℕ} where
  pub start_unique : {at i j : ℕ} → StartPattern s at i → StartPattern s at j → i ≡ j
  start_unique (StartPattern.bare p) (StartPattern.bare q) = refl
  start_unique (StartPattern.bare p) (StartPattern.lf q r) = absurd (omega arith)
  start_unique (StartPattern.bare p) (StartPattern.crlf q r t) = absurd (omega arith)
  start_unique (StartPattern.lf p q) (StartPattern.bare r) = absurd (omega arith)
  start_unique (StartPattern.lf p q) (StartPattern.lf r t) = refl
  start_unique (StartPattern.lf p q) (StartPattern.crlf r t u) = absurd (omega arith)
  start_unique (StartPattern.crlf p q r) (StartPattern.bare t) = absurd (omega arith)
  start_unique (StartPattern.crlf p q r) (StartPattern.lf t u) = absurd (omega arith)
  start_unique (StartPattern.crlf p q r) (StartPattern.crlf t u v) = refl

  pub end_unique : {c i j : ℕ} → EndPattern s c i → EndPattern s c j → i ≡ j
  end_unique (EndPattern.lf p q) (EndPattern.lf r t) = refl
  end_unique (EndPattern.lf p q) (EndPattern.crlf r t u) = absurd (omega arith)
  end_unique (EndPattern.crlf p q r) (EndPattern.lf t u) = absurd (omega arith)
  end_unique (EndPattern.crlf p q r) (EndPattern.crlf t u v) = refl

  -- An end pattern starts with `}`.
  pub end_brace : {c i : ℕ} → EndPattern s c i → byte s c ≡ 125
  end_brace (EndPattern.lf p q) = p
  end_brace (EndPattern.crlf p q r) = p

  pub header_unique : {at : ℕ} {h g : Header} → IsHeader s at h → IsHeader s at g → h ≡ g
  header_unique {at} {h} {g} a b =
      let l : h.left ≡ g.left = start_unique a.opening b.opening in
      let not_before : ¬ (h.right < g.right) =
      λ lt. (b.body h.right (omega (arith, a.order)) lt).not_right (end_brace a.closing) in
      let not_after : ¬ (g.right < h.right) =
      λ lt. (a.body g.right (omega (arith, b.order)) lt).not_right (end_brace b.closing) in
      let r : h.right ≡ g.right = omega arith in
      let n : h.length ≡ g.length = omega (arith, end_unique (rw r at a.closing) b.closing) in
      λ i. record { left = l i; right = r i; length = n i }

-- ---- The statements

module _ (s : List ℕ) where
  -- A statement's `=` is the first `=` from its first byte on,
  pub equals_first : {t : Statement} → IsStatement s t → First (is 61) s t.first t.equals
  equals_first {t} h = record {
    from = h.key_first;
    inside = byte_inside s t.equals 61 h.equals_is (omega arith);
    here = eq-eqb _ _ h.equals_is;
    before = λ k l u. ne_eqb _ _ (h.key_plain k l u).0;
  }

  -- and its `;` the first `;`.
  pub end_first : {t : Statement} → IsStatement s t → First (is 59) s t.first t.end
  end_first {t} h = record {
    from = omega (arith, h.key_first, h.value_after);
    inside = byte_inside s t.end 59 h.end_is (omega arith);
    here = eq-eqb _ _ h.end_is;
    before = λ k l u. ne_eqb _ _ (plain k l u);
  }
    where
      at-equals : (k : ℕ) → k ≡ t.equals → byte s k ≢ 59
      at-equals k q e = omega (arith, h.equals_is, ap (byte s) q)

      plain : (k : ℕ) → t.first ≤ k → k < t.end → byte s k ≢ 59
      plain k l u =
          by_order t.equals k
          (λ le. by_order k t.equals (λ ge. at-equals k (omega arith)) (λ lt. h.value_plain k lt u))
          (λ lt. (h.key_plain k l lt).1)

  pub statement-unique : {at m n : ℕ} {t u : Statement} → StatementFrom s at t m → StatementFrom s at u n
      → (t ≡ u) × (m ≡ n)
  statement-unique {t = t} {u = u} a b =
      let p : t.first ≡ u.first = a.starts ∙ sym b.starts in
      let q : t.equals ≡ u.equals = first_unique (is 61) s (equals_first a.is) (rw p (equals_first b.is)) in
      let r : t.end ≡ u.end = first_unique (is 59) s (end_first a.is) (rw p (end_first b.is)) in
      (λ i. record { first = p i; equals = q i; end = r i }, omega (arith, a.ends, b.ends))

  -- What is only whitespace holds no statement.
  pub not-only-whitespace : {at n : ℕ} {t : Statement} → StatementFrom s at t n → OnlyWhitespace s at → ⊥
  unfolding whitespace
  not-only-whitespace {t = t} h w =
      let e : whitespace (byte s t.equals) ≡ true =
      w t.equals (omega (arith, h.starts, h.is.key_first)) (equals_first h.is).inside in
      true≢false (sym e ∙ ap whitespace h.is.equals_is)

  pub statements-sure : Sure (StatementFrom s) (OnlyWhitespace s)
  statements-sure = record { one = statement-unique; apart = not-only-whitespace }

pub parse_unique : {s : List ℕ} {h : Header} {ts us : List Statement} → Parse s h ts → Parse s h us → ts ≡ us
parse_unique {s} {h} {ts} {us} a b =
    chain_unique (statements-sure (body_of s h)) (suc h.left) ts us a.shape b.shape
