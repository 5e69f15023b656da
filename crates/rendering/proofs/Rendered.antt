-- What the writer renders parses back: the header of any keywords that may stand in one, their parse, and what they say.
use mathlib.Core.Path.{◌≡◌, refl, sym, ap, subst, ◌∙◌}
use mathlib.Core.Bool.{true, false}
use mathlib.Core.List.{List, [], ◌∷◌, ◌++◌, map, append_assoc}
use Prim.Native.Nat.{ℕ, suc, ◌+◌, ◌-◌, ◌≤◌}
use native.Mathlib.Omega.{arith}
use lib.Dec.{eqb}
use lib.ListN.{length, replicate, length-append, length-replicate}
use Rattle.scan.specs.Byte.{byte}
use Rattle.text.specs.Key.{key_of}
use Rattle.text.specs.Value.{trimmed, value_of}
use Rattle.text.specs.Whitespace.{whitespace}
use Rattle.text.proofs.Everys.{Each}
use Rattle.text.specs.Text.{quoted_text, escaped_body}
use Rattle.text.proofs.Padding.{Blank, key_padded, spaced, Solid, plain_value, quoted_value, spaced_short}
use Rattle.text.proofs.Parts.{From, each_nil, each_cons, each_append, each_head, each_tail, each-replicate, every-each, part_byte, mark_byte, part_is, rest_is}
use Rattle.header.specs.Entries.{entries}
use Rattle.header.specs.Entry.{Entry, body_of}
use Rattle.header.specs.Grammar.{StartPattern, EndPattern, BodyByte, IsHeader, Distinct, Parse}
use Rattle.header.specs.declared.Header.{Header}
use Rattle.header.specs.declared.Statement.{Statement}
use Rattle.header.proofs.Laid.{Piece, laid, statements_at, entries_at, ValueByte, KeyByte, MayLay, blank_byte, laid_body, laid_parse, laid_entries, placed}
use Rattle.header.proofs.SayLaws.{entries_say}
use Rattle.blocks.specs.Grammar.{HasHeader, MultipleOf}
use Rattle.rendering.specs.Render.{Keyword, line, lines, padding, opening, rendered_header}
use Rattle.rendering.proofs.Padding.{padding_multiple}

-- ---- What may be rendered

abbrev pub folded : Keyword → List ℕ
folded k = key_of k.key

-- A keyword that may stand in a header.
pub record MayStand (k : Keyword) : Type 0 where
  pub key_bytes : Each KeyByte k.key
  pub key_some : 1 ≤ length (folded k)
  pub key_short : length (folded k) ≤ 64
  pub value_bytes : Each ValueByte k.value
  pub value_short : (trimmed k.value).length ≤ 2048

-- Keywords that may make a header.
pub record MayRender (ks : List Keyword) : Type 0 where
  pub each : Each MayStand ks
  pub distinct : Distinct (map folded ks)
  pub short : length (rendered_header ks) ≤ 65536

-- ---- The rendered lines as statements

-- A line is a statement from the CR LF before it up to its `;`: its own CR LF belongs to what follows.
abbrev pub piece_of : Keyword → Piece
piece_of k = record { key = 13 ∷ 10 ∷ k.key ++ (32 ∷ []); value = spaced k.value }

line_laid : (k v rest : List ℕ)
    → k ++ (32 ∷ 61 ∷ 32 ∷ v ++ (32 ∷ 59 ∷ 13 ∷ 10 ∷ [])) ++ rest ≡ k ++ (32 ∷ []) ++ (61 ∷ 32 ∷ v ++ (32 ∷ []) ++ (59 ∷ 13 ∷ 10 ∷ rest))
line_laid k v rest = simp append_assoc

lines_laid : (ks : List Keyword) (tail : List ℕ) → 13 ∷ 10 ∷ lines ks ++ tail ≡ laid (map piece_of ks) (13 ∷ 10 ∷ tail)
unfolding lines line laid
lines_laid [] tail = refl
lines_laid (k ∷ ks) tail =
    rw (← lines_laid ks tail)
    (ap (λ (l : List ℕ). 13 ∷ 10 ∷ l) (append_assoc (line k) (lines ks) tail ∙ line_laid k.key k.value (lines ks ++ tail)))

line_end : Blank (13 ∷ 10 ∷ [])
unfolding whitespace
line_end = every-each whitespace (13 ∷ 10 ∷ []) refl

space : Blank (32 ∷ [])
unfolding whitespace
space = every-each whitespace (32 ∷ []) refl

piece_key : (k : Keyword) → key_of (piece_of k).key ≡ folded k
piece_key k = key_padded (13 ∷ 10 ∷ []) k.key (32 ∷ []) line_end space

pieces_keys : (ks : List Keyword) → map (λ (p : Piece). key_of p.key) (map piece_of ks) ≡ map folded ks
pieces_keys [] = refl
pieces_keys (k ∷ ks) = cc (piece_key k, pieces_keys ks)

may_lay : (k : Keyword) → MayStand k → MayLay (piece_of k)
may_lay k h =
    record {
      key_bytes = each_append (λ b m. blank_byte b (line_end b m)) (each_append h.key_bytes (λ b m. blank_byte b (space b m)));
      key_some = rw (piece_key k) h.key_some;
      key_short = rw (piece_key k) h.key_short;
      value_bytes = each_append (λ b m. (blank_byte b (space b m)).value) (each_append h.value_bytes (λ b m. (blank_byte b (space b m)).value));
      value_short = omega (arith, spaced_short k.value, h.value_short);
    }

may_lay_all : (ks : List Keyword) → Each MayStand ks → Each MayLay (map piece_of ks)
may_lay_all [] h = each_nil MayLay
may_lay_all (k ∷ ks) h = each_cons (may_lay k (each_head h)) (may_lay_all ks (each_tail h))

-- ---- The header

-- The `}` and LF apart from what is before them.
ended : (l p rest : List ℕ)
    → l ++ (p ++ (13 ∷ 10 ∷ 125 ∷ 10 ∷ [])) ++ rest ≡ l ++ (p ++ (13 ∷ 10 ∷ [])) ++ (125 ∷ 10 ∷ rest)
ended l p rest = simp append_assoc

ended-length : (l p : List ℕ) → length (l ++ (p ++ (13 ∷ 10 ∷ 125 ∷ 10 ∷ []))) ≡ length (l ++ (p ++ (13 ∷ 10 ∷ []))) + 2
ended-length l p = simp length-append (omega arith)

module _ (ks : List Keyword) where
  -- The spaces after the lines, and CR LF.
  abbrev pub spaces : List ℕ
  spaces = replicate (padding (length (opening ks) + 4)) 32 ++ (13 ∷ 10 ∷ [])

  -- Between the braces.
  abbrev pub inner : List ℕ
  inner = 13 ∷ 10 ∷ lines ks ++ spaces

  -- The header, its statements, and what they say.
  abbrev pub header_for : Header
  header_for = record { left = 0; right = 1 + length inner; length = length (rendered_header ks) }

  abbrev pub statements_for : List Statement
  statements_for = statements_at 1 (map piece_of ks)

  abbrev pub entries_for : List Entry
  entries_for = entries_at 1 (map piece_of ks)

  -- What follows the last `;`.
  tail_blank : Blank (13 ∷ 10 ∷ spaces)
  unfolding whitespace
  tail_blank =
      each_append line_end (each_append (each-replicate (λ b. whitespace b ≡ true) 32 (padding (length (opening ks) + 4)) refl) line_end)

  inner_body : Each MayStand ks → Each BodyByte inner
  inner_body h =
      subst (Each BodyByte) (sym (lines_laid ks spaces))
      (laid_body (map piece_of ks) (13 ∷ 10 ∷ spaces) (may_lay_all ks h) (λ b m. (blank_byte b (tail_blank b m)).value.body))

  rendered_length : 0 + length (rendered_header ks) ≡ 1 + length inner + 2
  unfolding rendered_header opening
  rendered_length = omega (arith, ended-length (lines ks) (replicate (padding (length (opening ks) + 4)) 32))

  module _ (rest : List ℕ) where
    rendered_from : From (rendered_header ks ++ rest) 1 (inner ++ (125 ∷ 10 ∷ rest))
    unfolding rendered_header opening
    rendered_from =
        record { is = ap (λ (l : List ℕ). 13 ∷ 10 ∷ l) (ended (lines ks) (replicate (padding (length (opening ks) + 4)) 32) rest) }

    body_from : From (body_of (rendered_header ks ++ rest) header_for) 1 (laid (map piece_of ks) (13 ∷ 10 ∷ spaces))
    body_from = record { is = part_is inner 125 (10 ∷ rest) rendered_from ∙ lines_laid ks spaces }

    line_feed : byte (rendered_header ks ++ rest) (1 + length inner + 1) ≡ 10
    line_feed =
        let e : suc (1 + length inner) + 0 ≡ 1 + length inner + 1 = omega arith in
        rw e at (mark_byte [] 10 rest (rest_is inner 125 (10 ∷ rest) rendered_from))

    rendered_header_lem : MayRender ks → IsHeader (rendered_header ks ++ rest) 0 header_for
    unfolding rendered_header opening
    rendered_header_lem h =
        record {
          opening = StartPattern.bare refl;
          order = omega arith;
          body = part_byte inner 125 (10 ∷ rest) rendered_from (inner_body h.each);
          closing = rw rendered_length (EndPattern.lf (mark_byte inner 125 (10 ∷ rest) rendered_from) line_feed);
          short = h.short;
        }

    rendered_parse : MayRender ks → Parse (rendered_header ks ++ rest) header_for statements_for
    rendered_parse h =
        laid_parse (rendered_header ks ++ rest) (13 ∷ 10 ∷ spaces) header_for (map piece_of ks) body_from (may_lay_all ks h.each)
        tail_blank (rw (pieces_keys ks) h.distinct)

    -- This is what the statements say,
    pub rendered_entries : entries (body_of (rendered_header ks ++ rest) header_for) statements_for ≡ entries_for
    rendered_entries = laid_entries (body_of (rendered_header ks ++ rest) header_for) (13 ∷ 10 ∷ spaces) 1 (map piece_of ks) body_from

    -- and the header stands there, with its statements.
    pub rendered_stands : MayRender ks → HasHeader (rendered_header ks ++ rest) 0 header_for statements_for entries_for
    rendered_stands h = record {
      header = rendered_header_lem h;
      parse = rendered_parse h;
      says = rw rendered_entries at (entries_say (body_of (rendered_header ks ++ rest) header_for) statements_for);
    }

  -- The header's length is a multiple of 512.
  pub rendered_multiple : MultipleOf 512 (length (rendered_header ks))
  unfolding rendered_header
  rendered_multiple =
      let m = padding_multiple (length (opening ks) + 4) in
      (m.0, simp (length-append, length-replicate) (omega (arith, m.1)))

-- ---- What the statements say

said_keys : (at : ℕ) (ks : List Keyword) → map (λ (e : Entry). e.key) (entries_at at (map piece_of ks)) ≡ map folded ks
unfolding entries_at
said_keys at [] = refl
said_keys at (k ∷ ks) = cc (piece_key k, said_keys (suc (placed at (piece_of k)).end) ks)

said_values : (at : ℕ) (ks : List Keyword)
    → map (λ (e : Entry). e.value) (entries_at at (map piece_of ks)) ≡ map (λ (k : Keyword). value_of (spaced k.value)) ks
unfolding entries_at
said_values at [] = refl
said_values at (k ∷ ks) = cc (said_values (suc (placed at (piece_of k)).end) ks)

-- A header that gives the keywords back.
pub record ParsesBack (ks : List Keyword) (s : List ℕ) : Type 0 where
  pub header : Header
  pub statements : List Statement
  pub entries : List Entry
  pub stands : HasHeader s 0 header statements entries
  pub length_is : header.length ≡ length (rendered_header ks)
  pub multiple : MultipleOf 512 header.length
  pub keys : map (λ (e : Entry). e.key) entries ≡ map folded ks
  pub values : map (λ (e : Entry). e.value) entries ≡ map (λ (k : Keyword). value_of (spaced k.value)) ks

-- Whatever follows it.
pub parses_back : (ks : List Keyword) (rest : List ℕ) → MayRender ks → ParsesBack ks (rendered_header ks ++ rest)
parses_back ks rest h =
    record {
      header = header_for ks;
      statements = statements_for ks;
      entries = entries_for ks;
      stands = rendered_stands ks rest h;
      length_is = refl;
      multiple = rendered_multiple ks;
      keys = said_keys 1 ks;
      values = said_values 1 ks;
    }

-- Bytes that are written for a value, and the value that is read back: the bytes themselves where they start and end with a visible
-- byte that is no quote, and for quoted text what stands between the quotes.
pub data ReadsAs : List ℕ → List ℕ → Type 0 where
  plain : {v : List ℕ} → Solid v → eqb (byte v 0) 34 ≡ false → eqb (byte v (length v - 1)) 34 ≡ false → ReadsAs v v
  quoted : (t : List ℕ) → ReadsAs (quoted_text t) (escaped_body t)

pub reads_as : {v w : List ℕ} → ReadsAs v w → value_of (spaced v) ≡ w
unfolding quoted_text
reads_as (plain {v = v} h first last) = plain_value v h first last
reads_as (quoted t) = quoted_value (escaped_body t)

-- So the values of the header are those.
abbrev pub AllRead : List Keyword → List (List ℕ) → Type 0
AllRead [] [] = Unit {0}
AllRead [] (w ∷ ws) = ⊥
AllRead (k ∷ ks) [] = ⊥
AllRead (k ∷ ks) (w ∷ ws) = ReadsAs k.value w × AllRead ks ws

pub values_read : (ks : List Keyword) (ws : List (List ℕ)) → AllRead ks ws → map (λ (k : Keyword). value_of (spaced k.value)) ks ≡ ws
values_read [] [] h = refl
values_read [] (w ∷ ws) h = absurd h
values_read (k ∷ ks) [] h = absurd h
values_read (k ∷ ks) (w ∷ ws) h = cc (reads_as h.0, values_read ks ws h.1)
