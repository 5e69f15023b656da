-- A file is written exactly if the frame, the pixels and the title are allowed, and then it is this file.
use Rattle.std.specs.Prelude.{Ok}
use Rattle.scan.specs.Outcome.{Outcome, require, ◌>>◌}
use mathlib.Core.Path.{◌≡◌, refl, sym, ap}
use mathlib.Core.Bool.{Bool, true, false}
use mathlib.Core.List.{List, [], ◌∷◌}
use Prim.Native.Nat.{ℕ, zero, suc, ◌*◌, ◌≤◌}
use native.Mathlib.Omega.{arith}
use borrow.Author.Tests.{eqb-true, eq-eqb, le-leb, leb-true}
use lib.Dec.{eqb, leb}
use lib.IntN.{ℤ, pos, negsuc}
use lib.ListN.{length, length-take}
use Rattle.scan.proofs.Cases.{by_test, ok-failed}
use Rattle.scan.proofs.Decides.{Decides, fails, decided, passes, decides_and, decides_by, leb_decides}
use Rattle.text.specs.Text.{every, text_byte, short_text}
use Rattle.text.proofs.Everys.{Each, every_decides}
use Rattle.text.proofs.Parts.{every-each, each-every}
use Rattle.raster.specs.Axis.{configurations}
use Rattle.raster.specs.Position.{product}
use Rattle.array.specs.Delivery.{is_order}
use Rattle.frame.specs.File.{frame_dims, frame_type, file_of, within, positive_memory, frame_allowed, written_file}
use Rattle.blocks.specs.Limits.{file_limit}
use Rattle.description.specs.Limits.{dim_limit}
use Rattle.text.specs.Text.{text_limit}
use Rattle.frame.specs.declared.Frame.{Frame}

-- A number from `least` to `most`.
pub record Within (least most n : ℕ) : Type 0 where
  pub low : least ≤ n
  pub high : n ≤ most

-- A memory from 1.
pub record IsMemory (z : ℤ) : Type 0 where
  pub number : ℕ
  pub is : z ≡ pos number
  pub some : 1 ≤ number

pub record Allowed (f : Frame) : Type 0 where
  pub datatype : Within 1 10 f.datatype
  pub byteorder : Within 1 2 f.byteorder
  pub instance : Within 1 2 f.instance
  pub memory : IsMemory f.memory
  pub n : Within 1 3 f.n
  pub dims : Each (Within 1 dim_limit) (frame_dims f)
  pub configuration : Within 1 (configurations f.n) f.configuration

-- It has n Dims.
pub dims_length : {f : Frame} → Allowed f → length (frame_dims f) ≡ f.n
dims_length {f} a = omega (arith, length-take f.n (f.dim1 ∷ f.dim2 ∷ f.dim3 ∷ []), a.n.high)

-- So few configurations.
pub few_configurations : (n : ℕ) → Within 1 3 n → configurations n ≤ 48
unfolding configurations
few_configurations zero h = absurd (omega (arith, h.low))
few_configurations (suc zero) h = omega arith
few_configurations (suc (suc zero)) h = omega arith
few_configurations (suc (suc (suc zero))) h = omega arith
few_configurations (suc (suc (suc (suc n)))) h = absurd (omega (arith, h.high))

pub record Writes (f : Frame) (title pixels s : List ℕ) : Type 0 where
  pub allowed : Allowed f
  pub whole : length pixels ≡ product (frame_dims f) * (frame_type f).width
  pub text : Each (λ b. text_byte b ≡ true) title
  pub small : length (file_of f title pixels) ≤ file_limit
  pub short : length title ≤ text_limit
  pub is : s ≡ file_of f title pixels

-- ---- The tests

within_decides : (least most n : ℕ) → Decides (Within least most n) (within least most n)
within_decides least most n =
    decides_by (λ h. record { low = h.0; high = h.1 }) (λ h. (h.low, h.high)) (decides_and (leb_decides least n) (leb_decides n most))

memory_decides : (z : ℤ) → Decides (IsMemory z) (positive_memory z)
memory_decides (pos n) =
    decides_by (λ h. record { number = n; is = refl; some = h })
    (λ h. let e : n ≡ h.number = cc h.is in omega (arith, h.some)) (leb_decides 1 n)
memory_decides (negsuc n) = fails (λ h. let z : ◌≡◌ {A = ℕ} 0 1 = cc h.is in omega arith)

pub allowed_decides : (f : Frame) → Decides (Allowed f) (frame_allowed f)
unfolding frame_allowed is_order
allowed_decides f =
    decides_by
    (λ h. record {
      datatype = h.0.0.0.0.0.0;
      byteorder = h.0.0.0.0.0.1;
      instance = h.0.0.0.0.1;
      memory = h.0.0.0.1;
      n = h.0.0.1;
      dims = h.0.1;
      configuration = h.1;
    })
    (λ a. ((((((a.datatype, a.byteorder), a.instance), a.memory), a.n), a.dims), a.configuration))
    (decides_and (decides_and (decides_and (decides_and (decides_and (decides_and
    (within_decides 1 10 f.datatype) (within_decides 1 2 f.byteorder)) (within_decides 1 2 f.instance)) (memory_decides f.memory))
    (within_decides 1 3 f.n)) (every_decides (Within 1 dim_limit) (within_decides 1 dim_limit) (frame_dims f)))
    (within_decides 1 (configurations f.n) f.configuration))

-- ---- The checks, one after another

checked : {B : Type 0} {x : B} (t : Bool) (code position : ℕ) (rest : Outcome B) → (require t code position >> rest) ≡ Ok x → (t ≡ true) × (rest ≡ Ok x)
checked true code position rest e = (refl, e)
checked false code position rest e = absurd (ok-failed (sym e))

short_checked : {B : Type 0} {x : B} (t : List ℕ) (rest : Outcome B) → (short_text t >> rest) ≡ Ok x → (length t ≤ text_limit) × (rest ≡ Ok x)
unfolding short_text
short_checked t rest e =
    by_test (leb (length t) text_limit) (λ q. (leb-true (length t) text_limit q, rw q at e)) (λ q. absurd (ok-failed (sym (rw q at e))))

pub written_says : (f : Frame) (title pixels : List ℕ) {s : List ℕ} → written_file f title pixels ≡ Ok s → Writes f title pixels s
unfolding written_file
written_says f title pixels e =
    let frame = checked (frame_allowed f) 24 0 _ e in
    let size = checked (eqb (length pixels) (product (frame_dims f) * (frame_type f).width)) 24 0 _ frame.1 in
    let text = checked (every text_byte title) 24 0 _ size.1 in
    let limit = checked (leb (length (file_of f title pixels)) file_limit) 24 0 _ text.1 in
    let short = short_checked title _ limit.1 in
    record {
      allowed = decided (allowed_decides f) frame.0;
      whole = eqb-true _ _ size.0;
      text = every-each text_byte title text.0;
      small = leb-true _ _ limit.0;
      short = short.0;
      is = cc short.1;
    }

-- And where they are allowed, it is written.
pub written_is : {f : Frame} {title pixels s : List ℕ} → Writes f title pixels s → written_file f title pixels ≡ Ok s
unfolding written_file short_text
written_is {f} {title} {pixels} w =
    rw (
      passes (allowed_decides f) w.allowed,
      eq-eqb (length pixels) (product (frame_dims f) * (frame_type f).width) w.whole,
      each-every text_byte title w.text,
      le-leb (length (file_of f title pixels)) file_limit w.small,
      le-leb (length title) text_limit w.short,
    )
    (ap Ok (sym w.is))
