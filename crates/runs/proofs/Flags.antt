-- Laws of flags: the bytes that a flag stands for, and what that says of sizes and places.
use Rattle.std.proofs.Common.{◌≡◌, ℕ, ◌+◌, ◌*◌, ◌%◌, ◌≤◌, Bool, true, false, refl, arith}
use Rattle.numbers.specs.Numbers.{has, when}
use Rattle.rules.specs.Chunk.{bytes_for, run_head, stride}

pub bytes_set : (n f w : ℕ) → has f w ≡ true → bytes_for n f w ≡ n
unfolding bytes_for
bytes_set n f w e = rw e

pub bytes_clear : (n f w : ℕ) → has f w ≡ false → bytes_for n f w ≡ 0
unfolding bytes_for
bytes_clear n f w e = rw e

-- the fields of a sample are of four bytes
fours : (f w : ℕ) → bytes_for 4 f w ≡ 4 * bytes_for 1 f w
unfolding bytes_for
fours f w =
    let by : (t : Bool) → has f w ≡ t → when (has f w) 4 0 ≡ 4 * when (has f w) 1 0
    = elim [ true ↦ λ e. rw e refl | false ↦ λ e. rw e refl ] in
    by (has f w) refl

pub stride_fours : (f : ℕ) → stride f % 4 ≡ 0
unfolding stride
stride_fours f = omega (arith, fours f 0x100, fours f 0x200, fours f 0x400, fours f 0x800)

-- a duration, a size, or both stand in each sample's fields
pub stride_ticks : (f : ℕ) → has f 0x100 ≡ true → 4 ≤ stride f
unfolding stride
stride_ticks f e = omega (arith, bytes_set 4 f 0x100 e)

pub stride_bytes : (f : ℕ) → has f 0x200 ≡ true → 4 ≤ stride f
unfolding stride
stride_bytes f e = omega (arith, bytes_set 4 f 0x200 e)

pub stride_both : (f : ℕ) → has f 0x100 ≡ true → has f 0x200 ≡ true → 8 ≤ stride f
unfolding stride
stride_both f e h = omega (arith, bytes_set 4 f 0x100 e, bytes_set 4 f 0x200 h)

-- the first sample's flags of a run that are there end in it, a sample's own flags and its size in its fields, and a run's offset before them
pub reach_first : (f : ℕ) → has f 0x4 ≡ true → 8 + bytes_for 4 f 0x1 + 4 ≤ run_head f
unfolding run_head
reach_first f e = omega (arith, bytes_set 4 f 0x4 e)

pub reach_own : (f : ℕ) → has f 0x400 ≡ true → bytes_for 4 f 0x100 + bytes_for 4 f 0x200 + 4 ≤ stride f
unfolding stride
reach_own f e = omega (arith, bytes_set 4 f 0x400 e)

pub reach_size : (f : ℕ) → has f 0x200 ≡ true → bytes_for 4 f 0x100 + 4 ≤ stride f
unfolding stride
reach_size f e = omega (arith, bytes_set 4 f 0x200 e)

pub reach_offset : (f : ℕ) → has f 0x1 ≡ true → 12 ≤ run_head f
unfolding run_head
reach_offset f e = omega (arith, bytes_set 4 f 0x1 e)
