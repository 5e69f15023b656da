-- Passing over whitespace, on plain values.
use Rattle.std.proofs.Common.{◌≡◌, ℕ, ◌<◌, true, List, length, Option, None, Some, refl, unwrap_or}
use Rattle.scan.specs.Byte.{byte}
use Rattle.scan.specs.Search.{first_from}
use Rattle.scan.proofs.Searches.{search_hit}
use Rattle.text.specs.Whitespace.{visible, found_or, visible_from}

found_same : (n : ℕ) (f : Option ℕ) → unwrap_or f n ≡ found_or n f
found_same n None = refl
found_same n (Some i) = refl

module _ (s : List ℕ) (from : ℕ) where
  pub skip_here : from < length s → visible (byte s from) ≡ true → from ≡ visible_from s from
  unfolding visible_from
  skip_here h e = rw (search_hit visible s from h e)

  pub skip_found : {f : Option ℕ} → f ≡ first_from visible s from → unwrap_or f (length s) ≡ visible_from s from
  unfolding visible_from
  skip_found e = rw e (found_same (length s) (first_from visible s from))
