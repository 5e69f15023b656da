-- Where a key stands among the statements of a header, and whether it counts there. Facts about what a header says; nothing here says
-- how a key is found.
use Rattle.std.specs.Prelude.{◌≡◌, List, ◌∷◌, ◌++◌, ℕ, suc, ◌<◌}
use Rattle.scan.specs.Byte.{ascii}
use Rattle.header.specs.Entry.{Entry}

-- "A file is of kind 2 exactly if ..; else of kind 1."
pub data Kind : Type 0 where
  kind_1 : Kind
  kind_2 : Kind

-- ---- The statement at a number

-- Statement number n of a header, from 0, says e.
pub data EntryAt : List Entry → ℕ → Entry → Type 0 where
  here : {e : Entry} {es : List Entry} → EntryAt (e ∷ es) 0 e
  later : {x e : Entry} {es : List Entry} {n : ℕ} → EntryAt es n e → EntryAt (x ∷ es) (suc n) e

-- It has a key and a value.
pub record HasKey (es : List Entry) (n : ℕ) (key value : List ℕ) : Type 0 where
  pub entry : Entry
  pub at : EntryAt es n entry
  pub key_is : entry.key ≡ key
  pub value_is : entry.value ≡ value

-- ---- EDF_ keys

-- An EDF_ key "starts with `edf_`".
pub record IsEdfKey (key : List ℕ) : Type 0 where
  pub rest : List ℕ
  pub is : key ≡ ascii "edf_" ++ rest

-- The header "has a statement and its key starts with `edf_`".
pub record StartsWithEdfKey (es : List Entry) : Type 0 where
  pub entry : Entry
  pub at : EntryAt es 0 entry
  pub edf : IsEdfKey entry.key

-- "In kind 2 an EDF_ key counts only if all statements before it in its header are EDF_ keys".
pub record Counts (es : List Entry) (n : ℕ) (e : Entry) : Type 0 where
  pub at : EntryAt es n e
  pub edf : IsEdfKey e.key
  pub before : (m : ℕ) (x : Entry) → m < n → EntryAt es m x → IsEdfKey x.key

-- A key that counts in kind 2, and its value.
pub record CountsAs (es : List Entry) (key value : List ℕ) : Type 0 where
  pub number : ℕ
  pub entry : Entry
  pub counts : Counts es number entry
  pub key_is : entry.key ≡ key
  pub value_is : entry.value ≡ value

-- The same in a file of any kind: "In kind 1 all EDF_ keys are ignored".
pub data CountsIn : Kind → List Entry → List ℕ → List ℕ → Type 0 where
  counts : {es : List Entry} {key value : List ℕ} → CountsAs es key value → CountsIn kind_2 es key value

-- The value of the key that gives the length of the data. "In kind 1 .. the extent's length is Size .. In kind 2 the length is
-- EDF_BinarySize .. and Size is ignored."
pub data SizeIs : Kind → List Entry → List ℕ → Type 0 where
  size : {es : List Entry} {value : List ℕ} {n : ℕ} → HasKey es n (ascii "size") value → SizeIs kind_1 es value
  binary_size : {es : List Entry} {value : List ℕ} → CountsAs es (ascii "edf_binarysize") value → SizeIs kind_2 es value
