-- Statements that are laid out one after another are what stands there: their parse, and what they say.
use mathlib.Core.Path.{◌≡◌, refl, sym, ap, subst, ◌∙◌}
use mathlib.Core.Bool.{true}
use mathlib.Core.Logic.{◌≢◌, ⊎_elim}
use mathlib.Core.List.Memᴰ
use mathlib.Core.List.{List, [], ◌∷◌, ◌++◌, map}
use Prim.Native.Nat.{ℕ, suc, ◌+◌, ◌-◌, ◌≤◌}
use native.Mathlib.Omega.{arith}
use lib.ListN.{length, length-drop}
use lib.Seq.{get_or-drop}
use Rattle.scan.specs.Byte.{byte}
use Rattle.scan.specs.Chain.{Chain}
use Rattle.scan.proofs.Decides.{decided, decides_and, decides_or, eqb_decides, leb_decides}
use Rattle.text.specs.Key.{key_of}
use Rattle.text.specs.Value.{trimmed, value_span, value_of}
use Rattle.text.specs.Whitespace.{whitespace}
use Rattle.text.proofs.Everys.{Each}
use Rattle.text.proofs.Padding.{Blank}
use Rattle.text.proofs.Parts.{From, each-byte, each_head, each_tail, each_cons, each_append, part_byte, mark_byte, part_is, rest_is}
use Rattle.header.specs.Entries.{value, span, entries}
use Rattle.header.specs.Entry.{Entry, body_of, key, raw_value}
use Rattle.header.specs.Grammar.{BodyByte, StatementFrom, OnlyWhitespace, Short, Distinct, Parse}
use Rattle.header.specs.declared.Header.{Header}
use Rattle.header.specs.declared.Statement.{Statement}
use Rattle.header.proofs.Rules.{is_short_lem}

-- ---- The layout

-- What a statement is laid out from: the bytes before its `=`, and those between `=` and `;`.
pub record Piece : Type 0 where
  pub key : List ℕ
  pub value : List ℕ

-- Statements end to end, and what follows them.
unfoldable pub laid : List Piece → List ℕ → List ℕ
laid [] tail = tail
laid (p ∷ ps) tail = p.key ++ (61 ∷ p.value ++ (59 ∷ laid ps tail))

-- Where a statement stands that is laid out from an offset on,
abbrev pub placed : ℕ → Piece → Statement
placed at p =
    record { first = at; equals = at + length p.key; end = suc (at + length p.key) + length p.value }

unfoldable pub statements_at : ℕ → List Piece → List Statement
statements_at at [] = []
statements_at at (p ∷ ps) = placed at p ∷ statements_at (suc (placed at p).end) ps

-- and what it says.
abbrev pub entry_at : ℕ → Piece → Entry
entry_at at p =
    record {
      key = key_of p.key;
      value = value_of p.value;
      span = record {
        offset = suc (at + length p.key) + (value_span p.value).offset;
        length = (value_span p.value).length;
      };
    }

unfoldable pub entries_at : ℕ → List Piece → List Entry
entries_at at [] = []
entries_at at (p ∷ ps) = entry_at at p ∷ entries_at (suc (placed at p).end) ps

-- ---- What may be laid out

-- A byte that may stand in a value, and in a key.
pub record ValueByte (b : ℕ) : Type 0 where
  pub body : BodyByte b
  pub not_end : b ≢ 59

pub record KeyByte (b : ℕ) : Type 0 where
  pub value : ValueByte b
  pub not_equals : b ≢ 61

pub record MayLay (p : Piece) : Type 0 where
  pub key_bytes : Each KeyByte p.key
  pub key_some : 1 ≤ length (key_of p.key)
  pub key_short : length (key_of p.key) ≤ 64
  pub value_bytes : Each ValueByte p.value
  pub value_short : (trimmed p.value).length ≤ 2048

body_byte : (b : ℕ) → 1 ≤ b → b ≤ 122 → BodyByte b
body_byte b low high = record { above = low; below = omega arith; not_left = λ e. omega arith; not_right = λ e. omega arith }

-- Whitespace may stand anywhere.
pub blank_byte : (b : ℕ) → whitespace b ≡ true → KeyByte b
unfolding whitespace
blank_byte b e =
    let range : (1 ≤ b) × (b ≤ 32) = ⊎_elim (λ q. omega arith) (λ q. omega arith)
    (decided (decides_or (eqb_decides b 32) (decides_and (leb_decides 9 b) (leb_decides b 13))) e) in
    record {
      value = record { body = body_byte b range.0 (omega arith); not_end = λ q. omega arith };
      not_equals = λ q. omega arith;
    }

pub laid_body : (ps : List Piece) (tail : List ℕ) → Each MayLay ps → Each BodyByte tail → Each BodyByte (laid ps tail)
unfolding laid
laid_body [] tail h more = more
laid_body (p ∷ ps) tail h more =
    let one = each_head h in
    each_append (λ b m. (one.key_bytes b m).value.body) (each_cons (body_byte 61 (omega arith) (omega arith))
    (each_append (λ b m. (one.value_bytes b m).body) (each_cons (body_byte 59 (omega arith) (omega arith)) (laid_body ps tail (each_tail h) more))))

-- ---- One statement

module _ {s : List ℕ} {at : ℕ} (p : Piece) (rest : List ℕ) (from : From s at (p.key ++ (61 ∷ p.value ++ (59 ∷ rest)))) where
  value_from : From s (suc (at + length p.key)) (p.value ++ (59 ∷ rest))
  value_from = rest_is p.key 61 (p.value ++ (59 ∷ rest)) from

  next_from : From s (suc (placed at p).end) rest
  next_from = rest_is p.value 59 rest value_from

  key_is : key s (placed at p) ≡ key_of p.key
  unfolding key
  key_is = ap key_of (part_is p.key 61 (p.value ++ (59 ∷ rest)) from)

  raw_is : raw_value s (placed at p) ≡ p.value
  raw_is = part_is p.value 59 rest value_from

  stands : MayLay p → StatementFrom s at (placed at p) (suc (placed at p).end)
  stands h =
      record {
        starts = refl;
        is = record {
          key_first = omega arith;
          key_plain = λ k low high. let b = part_byte p.key 61 (p.value ++ (59 ∷ rest)) from h.key_bytes k low high in (b.not_equals, b.value.not_end);
          equals_is = mark_byte p.key 61 (p.value ++ (59 ∷ rest)) from;
          value_after = omega arith;
          value_plain = λ k low high. (part_byte p.value 59 rest value_from h.value_bytes k low high).not_end;
          end_is = mark_byte p.value 59 rest value_from;
          key_some = rw key_is h.key_some;
        };
        ends = refl;
      }

  stands_short : MayLay p → Short s (placed at p)
  stands_short h = is_short_lem s (rw key_is h.key_short) (rw raw_is h.value_short)

  says : record { key = key s (placed at p); value = value s (placed at p); span = span s (placed at p) } ≡ entry_at at p
  unfolding value span
  says = rw (key_is, raw_is)

-- ---- All of them

module _ (s tail : List ℕ) where
  pub laid_chain : (at : ℕ) (ps : List Piece) → From s at (laid ps tail) → Each MayLay ps → Blank tail
      → Chain (StatementFrom s) (OnlyWhitespace s) at (statements_at at ps)
  unfolding laid statements_at
  laid_chain at [] from h blank = λ k low high.
      let same : at + (k - at) ≡ k = omega arith in
      let here : byte s (at + (k - at)) ≡ byte tail (k - at) = sym (get_or-drop at s (k - at) 0) ∙ ap (λ (l : List ℕ). byte l (k - at)) from.is in
      rw (rw same at here) (each-byte tail blank (k - at) (omega (arith, length-drop at s, ap length from.is)))
  laid_chain at (p ∷ ps) from h blank = (
    suc (placed at p).end,
    stands p (laid ps tail) from (each_head h),
    laid_chain (suc (placed at p).end) ps (next_from p (laid ps tail) from) (each_tail h) blank,
  )

  pub laid_short : (at : ℕ) (ps : List Piece) → From s at (laid ps tail) → Each MayLay ps → Each (Short s) (statements_at at ps)
  unfolding laid statements_at
  laid_short at [] from h t m = absurd (Memᴰ.not-nil m)
  laid_short at (p ∷ ps) from h t m =
      ⊎_elim (λ e. rw e (stands_short p (laid ps tail) from (each_head h)))
      (laid_short (suc (placed at p).end) ps (next_from p (laid ps tail) from) (each_tail h) t) (Memᴰ.cases_cons m)

  pub laid_keys : (at : ℕ) (ps : List Piece) → From s at (laid ps tail) → map (key s) (statements_at at ps) ≡ map (λ (p : Piece). key_of p.key) ps
  unfolding laid statements_at
  laid_keys at [] from = refl
  laid_keys at (p ∷ ps) from =
      let more = laid_keys (suc (placed at p).end) ps (next_from p (laid ps tail) from) in
      cc (key_is p (laid ps tail) from, more)

  pub laid_entries : (at : ℕ) (ps : List Piece) → From s at (laid ps tail) → entries s (statements_at at ps) ≡ entries_at at ps
  unfolding laid statements_at entries_at entries
  laid_entries at [] from = refl
  laid_entries at (p ∷ ps) from =
      let more = laid_entries (suc (placed at p).end) ps (next_from p (laid ps tail) from) in
      cc (says p (laid ps tail) from, more)

-- They are the parse of a header whose body is laid out so.
pub laid_parse : (s tail : List ℕ) (h : Header) (ps : List Piece) → From (body_of s h) (suc h.left) (laid ps tail)
    → Each MayLay ps → Blank tail → Distinct (map (λ (p : Piece). key_of p.key) ps) → Parse s h (statements_at (suc h.left) ps)
laid_parse s tail h ps from good blank apart =
    record {
      shape = laid_chain (body_of s h) tail (suc h.left) ps from good blank;
      short = laid_short (body_of s h) tail (suc h.left) ps from good;
      distinct = subst Distinct (sym (laid_keys (body_of s h) tail (suc h.left) ps from)) apart;
    }
