-- The keywords that the writer writes may make a header.
use mathlib.Core.Path.{◌≡◌, refl}
use mathlib.Core.Bool.{true}
use mathlib.Core.Logic.{inl, inr}
use mathlib.Core.List.{List, [], ◌∷◌, ◌++◌, map}
use Prim.Native.Nat.{ℕ, zero, suc, ◌+◌, ◌*◌, ◌≤◌}
use native.Mathlib.Omega.{arith}
use lib.IntN.{pos}
use lib.ListN.{length, take, length-append, length-replicate}
use Rattle.scan.specs.Byte.{ascii, same}
use Rattle.scan.proofs.Decides.{decided, decides_and, decides_or, decides_not, eqb_decides, leb_decides}
use Rattle.text.specs.Decimal.{digits_of, decimal}
use Rattle.text.specs.Fold.{fold}
use Rattle.text.specs.Key.{strip, key_of}
use Rattle.text.specs.Text.{every, text_byte, value_byte, quoted_text}
use Rattle.text.specs.Whitespace.{whitespace}
use Rattle.text.proofs.Decimals.{decimal-length}
use Rattle.text.proofs.Everys.{Each}
use Rattle.text.proofs.Padding.{trimmed-within}
use Rattle.text.proofs.Parts.{each_nil, each_cons, each_append, each_head, each_tail}
use Rattle.text.proofs.Quoted.{quoted_bytes, quoted_length}
use Rattle.text.proofs.Words.{Word, WordByte, word_byte, word, word_append, decimal_word, word_key-length}
use Rattle.header.specs.Grammar.{Distinct}
use Rattle.header.specs.Statements.{among, are_distinct}
use Rattle.header.proofs.Rules.{distinct_decides}
use Rattle.rendering.specs.Render.{dim_keywords, Keyword, line, lines, opening, rendered_header}
use Rattle.text.specs.Text.{text_limit}
use Rattle.frame.proofs.Allowed.{Within}
use Rattle.header.proofs.Laid.{ValueByte}
use Rattle.rendering.proofs.LineLaws.{opening-length}
use Rattle.rendering.proofs.Padding.{padding_small}
use Rattle.rendering.proofs.Rendered.{folded, MayStand, MayRender}

-- ---- What the writer writes for one keyword: a word, and a word or quoted text

-- A word that is short enough for a value.
pub record ShortWord (l : List ℕ) : Type 0 where
  pub is_word : Word l
  pub short : length l ≤ 2048

pub record Writable (k : Keyword) : Type 0 where
  pub key : Word k.key
  pub key_short : length k.key ≤ 64
  pub value : Each ValueByte k.value
  pub value_short : length k.value ≤ 2048

word_value : {b : ℕ} → WordByte b → ValueByte b
word_value h =
    record {
      body = record {
        above = omega (arith, h.low);
        below = omega (arith, h.high);
        not_left = λ e. omega (arith, h.high);
        not_right = λ e. omega (arith, h.high);
      };
      not_end = h.not_end;
    }

tested_value : (b : ℕ) → value_byte b ≡ true → ValueByte b
unfolding value_byte
tested_value b e =
    let d = decided (decides_and (decides_and (leb_decides 1 b) (leb_decides b 127))
    (decides_not (decides_or (decides_or (eqb_decides b 123) (eqb_decides b 125)) (eqb_decides b 59)))) e in
    record {
      body = record { above = d.0.0; below = d.0.1; not_left = λ q. d.1 (inl (inl q)); not_right = λ q. d.1 (inl (inr q)) };
      not_end = λ q. d.1 (inr q);
    }

may_stand : (k : Keyword) → Writable k → MayStand k
may_stand k h =
    record {
      key_bytes = λ b m. let w = h.key.bytes b m in record { value = word_value w; not_equals = w.not_equals };
      key_some = omega (arith, word_key-length k.key h.key, h.key.some);
      key_short = omega (arith, word_key-length k.key h.key, h.key_short);
      value_bytes = h.value;
      value_short = omega (arith, trimmed-within k.value, h.value_short);
    }

word_keyword : (k v : List ℕ) → Word k → length k ≤ 64 → ShortWord v → Writable (record { key = k; value = v })
word_keyword k v w short x =
    record { key = w; key_short = short; value = λ b m. word_value (x.is_word.bytes b m); value_short = x.short }

text_keyword : (k t : List ℕ) → Word k → length k ≤ 64 → Each (λ b. text_byte b ≡ true) t → length t ≤ text_limit
    → Writable (record { key = k; value = quoted_text t })
text_keyword k t w short text most =
    record { key = w; key_short = short; value = λ b m. tested_value b (quoted_bytes t text b m); value_short = omega (arith, quoted_length t) }

-- ---- Few keywords fit

lines-length : (ks : List Keyword) → Each Writable ks → length (lines ks) ≤ length ks * 2119
unfolding lines line
lines-length [] h = omega arith
lines-length (k ∷ ks) h =
    let w = each_head h in
    omega (
      arith,
      length-append (line k) (lines ks),
      length-append k.key (32 ∷ 61 ∷ 32 ∷ k.value ++ (32 ∷ 59 ∷ 13 ∷ 10 ∷ [])),
      length-append k.value (32 ∷ 59 ∷ 13 ∷ 10 ∷ []),
      w.key_short,
      w.value_short,
      lines-length ks (each_tail h),
    )

few_fit : (ks : List Keyword) → Each Writable ks → length ks ≤ 30 → length (rendered_header ks) ≤ 65536
unfolding rendered_header
few_fit ks h few =
    simp (length-append, length-replicate) (omega (arith, opening-length ks, lines-length ks h, padding_small (length (opening ks) + 4)))

may_render : (ks : List Keyword) → Each Writable ks → length ks ≤ 30 → Distinct (map folded ks) → MayRender ks
may_render ks h few apart = record { each = λ k m. may_stand k (h k m); distinct = apart; short = few_fit ks h few }

-- ---- The writer's list

-- The Dims of an array: one to three.
pub data Dims : List ℕ → Type 0 where
  one : (a : ℕ) → Dims (a ∷ [])
  two : (a b : ℕ) → Dims (a ∷ b ∷ [])
  three : (a b c : ℕ) → Dims (a ∷ b ∷ c ∷ [])

pub some_dims : (n a b c : ℕ) → Within 1 3 n → Dims (take n (a ∷ b ∷ c ∷ []))
some_dims zero a b c h = absurd (omega (arith, h.low))
some_dims (suc zero) a b c h = one a
some_dims (suc (suc zero)) a b c h = two a b
some_dims (suc (suc (suc zero))) a b c h = three a b c
some_dims (suc (suc (suc (suc n)))) a b c h = absurd (omega (arith, h.high))

-- The values of its keywords, those of the Dims and the title apart.
pub record Values : Type 0 where
  pub identity : List ℕ
  pub size : List ℕ
  pub order : List ℕ
  pub type : List ℕ
  pub configuration : List ℕ

abbrev pub keywords_with : Values → List ℕ → List ℕ → List Keyword
keywords_with v ds title =
    record { key = ascii "EDF_DataBlockID"; value = v.identity }
    ∷ record { key = ascii "EDF_BinarySize"; value = v.size }
    ∷ record { key = ascii "ByteOrder"; value = v.order }
    ∷ record { key = ascii "DataType"; value = v.type }
    ∷ dim_keywords 1 ds
    ++ (record { key = ascii "DataRasterConfiguration"; value = v.configuration }
    ∷ record { key = ascii "Title"; value = quoted_text title } ∷ [])

-- Their keys are distinct: by computing, for one to three Dims.
keys_distinct : (v : Values) (t : List ℕ) {ds : List ℕ} → Dims ds → Distinct (map folded (keywords_with v ds t))
unfolding dim_keywords are_distinct among same key_of strip fold whitespace decimal digits_of
keys_distinct v t (one a) = decided (distinct_decides (map folded (keywords_with v (a ∷ []) t))) refl
keys_distinct v t (two a b) = decided (distinct_decides (map folded (keywords_with v (a ∷ b ∷ []) t))) refl
keys_distinct v t (three a b c) = decided (distinct_decides (map folded (keywords_with v (a ∷ b ∷ c ∷ []) t))) refl

keywords_few : (v : Values) (t : List ℕ) {ds : List ℕ} → Dims ds → length (keywords_with v ds t) ≤ 30
unfolding dim_keywords
keywords_few v t (one a) = omega arith
keywords_few v t (two a b) = omega arith
keywords_few v t (three a b c) = omega arith

pub record AreWords (v : Values) : Type 0 where
  pub identity : ShortWord v.identity
  pub size : ShortWord v.size
  pub order : ShortWord v.order
  pub type : ShortWord v.type
  pub configuration : ShortWord v.configuration

dims_writable : (k : ℕ) (ds : List ℕ) → Each Writable (dim_keywords k ds)
unfolding dim_keywords
dims_writable k [] = each_nil Writable
dims_writable k (d ∷ ds) =
    each_cons
    (word_keyword (ascii "Dim_" ++ decimal (pos k)) (decimal (pos d)) (word_append (word (ascii "Dim_") (omega arith) refl) (decimal_word (pos k)).bytes)
    (omega (arith, decimal-length (pos k))) (record { is_word = decimal_word (pos d); short = omega (arith, decimal-length (pos d)) }))
    (dims_writable (suc k) ds)

keywords_writable : (v : Values) (ds t : List ℕ) → AreWords v → Each (λ b. text_byte b ≡ true) t → length t ≤ text_limit
    → Each Writable (keywords_with v ds t)
keywords_writable v ds t w text short =
    each_append
    (each_cons (named (ascii "EDF_DataBlockID") (omega arith) (omega arith) refl w.identity)
    (each_cons (named (ascii "EDF_BinarySize") (omega arith) (omega arith) refl w.size)
    (each_cons (named (ascii "ByteOrder") (omega arith) (omega arith) refl w.order)
    (each_cons (named (ascii "DataType") (omega arith) (omega arith) refl w.type) (dims_writable 1 ds)))))
    (each_cons (named (ascii "DataRasterConfiguration") (omega arith) (omega arith) refl w.configuration)
    (each_cons (text_keyword (ascii "Title") t (word (ascii "Title") (omega arith) refl) (omega arith) text short) (each_nil Writable)))
  where
    named : (k : List ℕ) → 1 ≤ length k → length k ≤ 64 → every word_byte k ≡ true → {l : List ℕ} → ShortWord l → Writable (record { key = k; value = l })
    named k some most e {l} s = word_keyword k l (word k some e) most s

-- So they may make a header.
pub keywords_render : (v : Values) (t : List ℕ) {ds : List ℕ} → Dims ds → AreWords v → Each (λ b. text_byte b ≡ true) t → length t ≤ text_limit
    → MayRender (keywords_with v ds t)
keywords_render v t {ds} d w text short =
    may_render (keywords_with v ds t) (keywords_writable v ds t w text short) (keywords_few v t d) (keys_distinct v t d)
