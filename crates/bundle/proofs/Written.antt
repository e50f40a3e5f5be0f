-- Laws of a record: a header and a track behind it are that track's record.
use Prim.Native.Nat.{ℕ, zero, suc, ◌+◌, ◌*◌, ◌-◌, ◌/◌, ◌%◌, ◌^◌, ◌≤◌, ◌<◌}
use mathlib.Core.Path.{◌≡◌, refl, sym, ap, ap₂, ◌∙◌}
use mathlib.Core.List.{List, [], ◌∷◌, ◌++◌, append_assoc}
use native.Mathlib.Nat.{add-zero}
use native.Mathlib.Omega.{arith}
use Rattle.std.proofs.lemmas.Nat.{from_be_bytes-to_be_bytes_4}
use lib.ListN.{length, take, length-append}
use lib.Seq.{take-append_seam, drop-append_seam, drop-append-add}
use borrow.Author.Tests.{eq-eqb, ne_eqb, le-ltb}
use Rattle.numbers.specs.Numbers.{be2, be4}
use Rattle.numbers.proofs.Bounds.{Reads, reads2, reads4, in_drop}
use Rattle.rules.specs.Bundle.{lengthed, mark_at, record_at, Records, none, track, records_from, records, rule24_from, rule24, tracks_of, tracks}
use Rattle.rules.specs.declared.Mark.TheVariants.{Nothing, Track}
use Rattle.std.specs.Prelude.{Ok}
use Rattle.bundle.specs.Front.{front_of, record_of, bundle_of, LengthsFit}

-- a length of 32 bits is its four bytes
bytes : (n : ℕ) → n < 2 ^ 32 → n / 16777216 % 256 * 16777216 + n / 65536 % 256 * 65536 + n / 256 % 256 * 256 + n % 256 ≡ n
bytes n h = omega (arith, from_be_bytes-to_be_bytes_4 n h)

-- a mark, a length and enough bytes are a record
marked : (b : List ℕ) (at n : ℕ) → at + 6 + n ≤ length b → be2 b at ≡ 0x5357 → be4 b (at + 2) ≡ n → record_at b at ≡ Track n
unfolding record_at mark_at lengthed
marked b at n g m e =
    rw (
      ne_eqb (length b - at) 0 (λ z. absurd (omega arith)),
      le-ltb (length b - at) 6 (omega arith),
      eq-eqb (be2 b at) 0x5357 m,
      e,
      le-ltb (length b - at - 6) n (omega arith),
    )

-- behind the last byte there is nothing
nothing : (b : List ℕ) (at : ℕ) → length b ≤ at → record_at b at ≡ Nothing
unfolding record_at mark_at
nothing b at h = rw (eq-eqb (length b - at) 0 (omega arith))

-- any reader reads behind p what it reads at the start
behind : {m : ℕ} {f : List ℕ → ℕ → ℕ} → Reads m f → (p q : List ℕ) (i : ℕ) → f (p ++ q) (length p + i) ≡ f q i
behind {f = f} r p q i = sym (in_drop r (length p) (p ++ q) i) ∙ ap (λ (l : List ℕ). f l i) (drop-append_seam p q)

-- a header for n bytes and n bytes behind it are a track of n bytes, wherever they stand in a bundle
pub front_tells : (p : List ℕ) (n : ℕ) (rest : List ℕ) → n < 2 ^ 32 → n ≤ length rest → record_at (p ++ (front_of n ++ rest)) (length p) ≡ Track n
unfolding be2 be4
front_tells p n rest h g =
    let q = front_of n ++ rest in
    let b = p ++ q in
    let start : be2 b (length p) ≡ be2 b (length p + 0) = ap (be2 b) (sym (add-zero (length p))) in
    marked b (length p) n (omega (arith, length-append p q)) (start ∙ behind reads2 p q 0 ∙ refl) (behind reads4 p q 2 ∙ bytes n h)

-- the records of tracks that stand one behind the other from a place on
standing : ℕ → List (List ℕ) → Records
standing at [] = none
standing at (s ∷ ss) = track (at + 6) (length s) (standing (at + 6 + length s) ss)

shaped : (f : ℕ) (p : List ℕ) (ss : List (List ℕ)) → length ss ≤ f → LengthsFit ss
    → records_from f (p ++ bundle_of ss) (length p) ≡ standing (length p) ss
unfolding records_from bundle_of standing
shaped zero p [] h w = rw (le-ltb (length p) (length (p ++ [])) (omega (arith, length-append p [])))
shaped (suc f) p [] h w = rw (nothing (p ++ []) (length p) (omega (arith, length-append p [])))
shaped zero p (s ∷ ss) h w = absurd (omega arith)
shaped (suc f) p (s ∷ ss) h w =
    let rest = s ++ bundle_of ss in
    let next : length (p ++ record_of s) ≡ length p + 6 + length s = omega (arith, length-append p (record_of s)) in
    rw (front_tells p (length s) rest w.0 (omega (arith, length-append s (bundle_of ss))))
    (ap (track (length p + 6) (length s))
    (ap₂ (records_from f) (sym (append_assoc p (record_of s) (bundle_of ss))) (sym next)
    ∙ shaped f (p ++ record_of s) ss (omega arith) w.1
    ∙ ap (λ (n : ℕ). standing n ss) next))

-- tracks that stand one behind the other break 24 only where there is none
held : (k at : ℕ) (ss : List (List ℕ)) → 0 < k + length ss → rule24_from k (standing at ss) ≡ Ok tt
unfolding rule24_from standing
held k at [] h = rw (ne_eqb k 0 (λ e. absurd (omega arith)))
held k at (s ∷ ss) h = held (k + 1) (at + 6 + length s) ss (omega arith)

-- a bundle of 1 to 16 tracks is framed without 24
pub packed : (ss : List (List ℕ)) → 0 < length ss → length ss ≤ 16 → LengthsFit ss → rule24 (bundle_of ss) ≡ Ok tt
unfolding rule24 records
packed ss h g w = ap (rule24_from 0) (shaped 16 [] ss g w) ∙ held 0 0 ss (omega arith)

-- the tracks of records that stand one behind the other
given : (p : List ℕ) (ss : List (List ℕ)) → tracks_of (p ++ bundle_of ss) (standing (length p) ss) ≡ ss
unfolding tracks_of bundle_of standing
given p [] = refl
given p (s ∷ ss) =
    let rest = s ++ bundle_of ss in
    let next : length (p ++ record_of s) ≡ length p + 6 + length s = omega (arith, length-append p (record_of s)) in
    ap₂ (◌∷◌)
    (ap (take (length s)) (drop-append-add p (front_of (length s) ++ rest) 6) ∙ take-append_seam s (bundle_of ss))
    (ap₂ tracks_of (sym (append_assoc p (record_of s) (bundle_of ss))) (ap (λ (n : ℕ). standing n ss) (sym next))
    ∙ given (p ++ record_of s) ss)

-- and its tracks are those that were bundled
pub unpacked : (ss : List (List ℕ)) → length ss ≤ 16 → LengthsFit ss → tracks (bundle_of ss) ≡ ss
unfolding tracks records
unpacked ss g w = ap (tracks_of (bundle_of ss)) (shaped 16 [] ss g w) ∙ given [] ss
