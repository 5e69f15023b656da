-- Whether a header makes a file one of kind 2, as the code finds it: statement by statement, and by the first key.
use Rattle.std.specs.Prelude.{is_some, Result, Ok, Err, Some, None}
use mathlib.Core.Path.{◌≡◌, refl, sym}
use mathlib.Core.Bool.{Bool, true, false}
use mathlib.Core.List.{List, [], ◌∷◌}
use Prim.Native.Nat.{ℕ, suc, ◌+◌}
use native.Mathlib.Numerals.{add-one}
use lib.ListN.{take}
use Rattle.scan.specs.Byte.{same}
use Rattle.scan.specs.declared.Error.{Error}
use Rattle.scan.proofs.Cases.{by_option}
use Rattle.scan.proofs.Finds.{by_finds}
use Rattle.header.specs.Frame.{header_at}
use Rattle.std.specs.Result.{is_ok}
use Rattle.scan.proofs.Cases.{clash}
use Rattle.header.specs.Entry.{Entry}
use Rattle.header.specs.Walks.{Steps}
use Rattle.header.specs.declared.Malformed.{Malformed}
use Rattle.header.proofs.WalkSteps.{Given, given, broken}
use Rattle.header.specs.Statements.{statement_at, statements_from, malformed}
use Rattle.header.specs.declared.Header.{Header}
use Rattle.header.specs.declared.Statement.{Statement}
use Rattle.header.proofs.Leading.{statement-stands, leading_is}
use Rattle.header.proofs.OneStatement.{NextSays, statement_says}
use Rattle.header.proofs.StatementLaws.{finds-statements, statements_are, statements-none, statements-broken}
use Rattle.blocks.specs.Counting.{first, is_edf_key}
use Rattle.blocks.specs.Judging.{edf_first, proves_kind2}
use Rattle.text.specs.Key.{key_of}
use Rattle.reading.specs.Entries.{entries_from}
use Rattle.reading.specs.FirstEntry.{IsFirstEntry}

-- ---- Whether all statements are well formed

module _ (s : List ℕ) (at : ℕ) where
  pub well_end : statement_at s at ≡ Ok None → is_some (statements_from s at) ≡ true
  well_end e = let w : NextSays s at (Ok None) = rw e at (statement_says s at) in rw (statements_are s at [] w)

  pub well_malformed : statement_at s at ≡ Err malformed → is_some (statements_from s at) ≡ false
  well_malformed e =
      let fault : NextSays s at (Err malformed) = rw e at (statement_says s at) in
      rw (statements-none s (record { statements = []; end = at; before = refl; fault = fault }))

  -- They are from one statement on if they are from the next on.
  pub well_on : (t : Statement) → statement_at s at ≡ Ok (Some t) → is_some (statements_from s at) ≡ is_some (statements_from s (t.end + 1))
  well_on t e =
      let next = suc t.end in
      let h = statement-stands s at t e in
      rw (add-one t.end)
      (by_finds (finds-statements s next)
      (λ ts q c. rw (q, statements_are s at (t ∷ ts) (next, h, c)))
      (λ q n. let b = statements-broken s next q in
      rw (q, statements-none s (record { statements = t ∷ b.statements; end = b.end; before = (next, h, b.before); fault = b.fault }))))

-- A step of a walk over the bytes l, which are s.
module _ {l s s' : List ℕ} {at next : ℕ} (same_bytes : l ≡ s) where
  pub well_step : (r : Result Statement Malformed) → Steps l at (Some r) s' next → is_ok r ≡ true
      → (s' ≡ s) × (is_some (statements_from s at) ≡ is_some (statements_from s next))
  well_step (Ok t) w e =
      let g : Given s at t s' next = given same_bytes w refl in
      (g.bytes, rw g.place (well_on s at t g.here))
  well_step (Err m) w e = absurd (clash false e refl)

  pub well_broken : (r : Result Statement Malformed) → Steps l at (Some r) s' next → is_ok r ≡ false
      → is_some (statements_from s at) ≡ false
  well_broken (Ok t) w e = absurd (clash true refl e)
  well_broken (Err m) w e = well_malformed s at (broken same_bytes w refl)

-- ---- The first key

pub no_first_key : {es : List Entry} → es ≡ [] → false ≡ is_edf_key (first es).key
unfolding is_edf_key same
no_first_key e = rw e

module _ (s : List ℕ) (from : ℕ) where
  pub first_key : {k v : List ℕ} {next : ℕ} → IsFirstEntry s from k v next → is_edf_key (key_of k) ≡ is_edf_key (first (entries_from s from)).key
  first_key f = rw (f.entries, f.key)

-- ---- Both

module _ (s : List ℕ) (from : ℕ) where
  pub edf_miss : is_edf_key (first (entries_from s from)).key ≡ false → false ≡ edf_first s (statements_from s from)
  edf_miss k =
      by_option (statements_from s from)
      (λ n. rw n)
      (λ ts e. rw e (sym (rw (leading_is s from ts e) at k)))

  pub edf_hit : is_edf_key (first (entries_from s from)).key ≡ true → {b : Bool} → b ≡ is_some (statements_from s from)
      → b ≡ edf_first s (statements_from s from)
  edf_hit k q =
      by_option (statements_from s from)
      (λ n. rw (q, n))
      (λ ts e. rw (q, e) (sym (rw (leading_is s from ts e) at k)))

module _ (s : List ℕ) (at : ℕ) where
  pub kind_unframed : {x : Error} → Err x ≡ header_at s at → false ≡ proves_kind2 s at
  unfolding proves_kind2
  kind_unframed e = rw (sym e)

  pub kind_framed : (h : Header) → Ok h ≡ header_at s at → {b : Bool}
      → b ≡ edf_first (take h.right s) (statements_from (take h.right s) (h.left + 1)) → b ≡ proves_kind2 s at
  unfolding proves_kind2
  kind_framed h e q = rw (sym e, sym (add-one h.left)) q
