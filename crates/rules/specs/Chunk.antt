-- Rules 14 to 22: one chunk, a pair `moof`, `mdat`, over the whole bytes of its `moof` (m), the header length and the payload length of its `mdat`, and a few
-- numbers: what the header tells (the track ID, id; the `trex` defaults, d) and the previous end (prev). A place is one in those bytes, or their end.
use Rattle.std.specs.Prelude.{ℕ, zero, suc, ◌+◌, ◌*◌, List, [], ◌∷◌, Bool, true, false, not, ◌&&◌, length, leb, eqb, Option, None, Some, Ok}
use Rattle.numbers.specs.Numbers.{be8, has, signed, is_place, when}
use Rattle.rules.specs.Kinds.{mfhd, traf, tfhd, tfdt, trun}
use Rattle.rules.specs.Limits.{sample_limit, tick_limit}
use Rattle.rules.specs.Rules.{◌then◌, must, Rule}
use Rattle.rules.specs.Boxes.{head_of, kids, places_of}
use Rattle.rules.specs.Counts.{first_in, child, counts}
use Rattle.rules.specs.Fields.{version, box_flags, field, Form, either, plain, body}
use Rattle.rules.specs.declared.Entry.{Entry}
use Rattle.rules.specs.declared.Entry.TheVariants.{One, OneOrMore}
use Rattle.rules.specs.declared.Defaults.{Defaults}

-- 14, `moof`: one `mfhd`, one `traf`
abbrev pub entries_in_moof : List Entry
entries_in_moof = One mfhd ∷ One traf ∷ []

-- 14, `traf`: one `tfhd`, one `tfdt`, one or more `trun`
abbrev pub entries_in_traf : List Entry
entries_in_traf = One tfhd ∷ One tfdt ∷ OneOrMore trun ∷ []

-- where the chunk's boxes stand in `moof`
unfoldable pub mfhd_in : List ℕ → ℕ
mfhd_in m = child m 0 mfhd

unfoldable pub traf_in : List ℕ → ℕ
traf_in m = child m 0 traf

unfoldable pub tfhd_in : List ℕ → ℕ
tfhd_in m = child m (traf_in m) tfhd

unfoldable pub tfdt_in : List ℕ → ℕ
tfdt_in m = child m (traf_in m) tfdt

-- the first `trun`'s place
unfoldable pub first_run : List ℕ → ℕ
first_run m = first_in m (traf_in m) (OneOrMore trun)

-- the runs of the chunk: the places of every `trun`, in byte order
unfoldable pub runs_in : List ℕ → List ℕ
runs_in m = places_of trun (kids m (traf_in m))

-- 14, in this order
unfoldable pub rule14 : List ℕ → Rule
rule14 m = counts 14 m 0 entries_in_moof then counts 14 m (traf_in m) entries_in_traf

-- n bytes where a flag is set
unfoldable pub bytes_for : ℕ → ℕ → ℕ → ℕ
bytes_for n flags w = when (has flags w) n 0

-- the size of `tfhd` by its flags: 16 plus 8 for flag 0x1 and 4 for each of 0x2, 0x8, 0x10, 0x20
unfoldable pub tfhd_size : ℕ → ℕ
tfhd_size flags =
    16 + bytes_for 8 flags 0x1 + bytes_for 4 flags 0x2 + bytes_for 4 flags 0x8 + bytes_for 4 flags 0x10 + bytes_for 4 flags 0x20

-- the bytes of a run before its samples' fields: 8 plus 4 for each of 0x1, 0x4
unfoldable pub run_head : ℕ → ℕ
run_head flags = 8 + bytes_for 4 flags 0x1 + bytes_for 4 flags 0x4

-- the bytes of a sample's fields in a run: 4 for each of 0x100, 0x200, 0x400, 0x800
unfoldable pub stride : ℕ → ℕ
stride flags = bytes_for 4 flags 0x100 + bytes_for 4 flags 0x200 + bytes_for 4 flags 0x400 + bytes_for 4 flags 0x800

-- how many samples a run has
unfoldable pub count_of : List ℕ → ℕ → ℕ
count_of m r = field m r 4

-- 15, `trun`: version 0 or 1, 16 plus 4 for each of 0x1, 0x4, plus 4 a sample for each of 0x100, 0x200, 0x400, 0x800
unfoldable pub run_size : List ℕ → ℕ → ℕ
run_size m r = 8 + run_head (box_flags m r) + stride (box_flags m r) * count_of m r

abbrev pub run_form : List ℕ → ℕ → Form
run_form m r = either (run_size m r) (run_size m r)

-- 15, every `trun`, in byte order
unfoldable pub rule15runs : List ℕ → List ℕ → Rule
rule15runs m [] = Ok tt
rule15runs m (r ∷ rs) = body 15 (run_form m r) m r then rule15runs m rs

-- `mfhd` 16, version 0
abbrev pub mfhd_form : Form
mfhd_form = plain 16

-- `tfhd` version 0, sized by its flags
abbrev pub tfhd_form : ℕ → Form
tfhd_form flags = plain (tfhd_size flags)

-- `tfdt` 16 (version 0) or 20 (version 1)
abbrev pub tfdt_form : Form
tfdt_form = either 16 20

-- 15: `mfhd` 16, version 0; `tfhd` version 0, sized by its flags; `tfdt` 16 (version 0) or 20 (version 1); then the runs
unfoldable pub rule15 : List ℕ → Rule
rule15 m =
    body 15 mfhd_form m (mfhd_in m)
    then body 15 (tfhd_form (box_flags m (tfhd_in m))) m (tfhd_in m)
    then body 15 tfdt_form m (tfdt_in m)
    then rule15runs m (runs_in m)

-- 16, a `trun`: 0x4 and 0x400 not both
abbrev pub not_both : ℕ → Bool
not_both f = not (has f 0x4 && has f 0x400)

-- 16, each `trun`
unfoldable pub rule16runs : List ℕ → List ℕ → Rule
rule16runs m [] = Ok tt
rule16runs m (r ∷ rs) = must (not_both (box_flags m r)) 16 r then rule16runs m rs

-- 16, `tfhd`: 0x1 and 0x10000 clear, 0x20000 set
unfoldable pub flagged : ℕ → Bool
flagged f = not (has f 0x1) && not (has f 0x10000) && has f 0x20000

-- 16: `tfhd`, then each `trun`
unfoldable pub rule16 : List ℕ → Rule
rule16 m = must (flagged (box_flags m (tfhd_in m))) 16 (tfhd_in m) then rule16runs m (runs_in m)

-- the `tfhd` track ID
abbrev pub tfhd_id : List ℕ → ℕ
tfhd_id m = field m (tfhd_in m) 4

-- 17: `tfhd` track ID differs from `tkhd`
unfoldable pub rule17 : List ℕ → ℕ → Rule
rule17 m id = must (eqb (tfhd_id m) id) 17 (tfhd_in m)

-- the samples of the runs in all
unfoldable pub samples_of : List ℕ → List ℕ → ℕ
samples_of m [] = 0
samples_of m (r ∷ rs) = count_of m r + samples_of m rs

-- 1 to 65,536 samples
abbrev pub few : ℕ → Bool
few n = leb 1 n && leb n sample_limit

-- 18: samples in the chunk not 1 to 65,536
unfoldable pub rule18 : List ℕ → Rule
rule18 m = must (few (samples_of m (runs_in m))) 18 (traf_in m)

-- 14 to 18: the chunk's shape
unfoldable pub shape : List ℕ → ℕ → Rule
shape m id = rule14 m then rule15 m then rule16 m then rule17 m id then rule18 m

-- the chunk's start: the `tfdt`
unfoldable pub start_of : List ℕ → ℕ
start_of m =
    when (eqb (version m (tfdt_in m)) 1) (be8 m (tfdt_in m + head_of m (tfdt_in m) + 4)) (field m (tfdt_in m) 4)

-- the `tfhd` default, else the `trex` default
unfoldable pub defaults_in : List ℕ → Defaults → Defaults
defaults_in m d =
    let at = tfhd_in m in
    let f = box_flags m at in
    let from = 8 + bytes_for 8 f 0x1 + bytes_for 4 f 0x2 in
    record {
      duration = when (has f 0x8) (field m at from) d.duration;
      size = when (has f 0x10) (field m at (from + bytes_for 4 f 0x8)) d.size;
      flags = when (has f 0x20) (field m at (from + bytes_for 4 f 0x8 + bytes_for 4 f 0x10)) d.flags;
    }

-- where sample i's fields stand in a run, behind the run's header
unfoldable pub sample_at : ℕ → ℕ → ℕ
sample_at flags i = run_head flags + stride flags * i

-- sample i's duration and size: the run's own, else the default
unfoldable pub duration_of : List ℕ → Defaults → ℕ → ℕ → ℕ
duration_of m d r i = when (has (box_flags m r) 0x100) (field m r (sample_at (box_flags m r) i)) d.duration

unfoldable pub bytes_of : List ℕ → Defaults → ℕ → ℕ → ℕ
bytes_of m d r i =
    when (has (box_flags m r) 0x200) (field m r (sample_at (box_flags m r) i + bytes_for 4 (box_flags m r) 0x100)) d.size

-- the flags of a run's first sample: first-sample flags stand before all, then the run's own, else the default
unfoldable pub first_flags_of : List ℕ → Defaults → ℕ → ℕ
first_flags_of m d r =
    let f = box_flags m r in
    when (has f 0x4) (field m r (8 + bytes_for 4 f 0x1))
    (when (has f 0x400) (field m r (sample_at f 0 + bytes_for 4 f 0x100 + bytes_for 4 f 0x200)) d.flags)

-- a sum over the first n
unfoldable pub sum_to : (ℕ → ℕ) → ℕ → ℕ
sum_to g zero = 0
sum_to g (suc n) = sum_to g n + g n

-- a run's durations and sizes in all
unfoldable pub run_duration : List ℕ → Defaults → ℕ → ℕ
run_duration m d r = sum_to (duration_of m d r) (count_of m r)

unfoldable pub run_bytes : List ℕ → Defaults → ℕ → ℕ
run_bytes m d r = sum_to (bytes_of m d r) (count_of m r)

-- the durations and the sizes of the runs in all
unfoldable pub durations_of : List ℕ → Defaults → List ℕ → ℕ
durations_of m d [] = 0
durations_of m d (r ∷ rs) = run_duration m d r + durations_of m d rs

unfoldable pub bytes_in : List ℕ → Defaults → List ℕ → ℕ
bytes_in m d [] = 0
bytes_in m d (r ∷ rs) = run_bytes m d r + bytes_in m d rs

-- the flags of the chunk's first sample: that of the first run that has one
unfoldable pub first_flags : List ℕ → Defaults → List ℕ → ℕ
first_flags m d [] = 0
first_flags m d (r ∷ rs) = when (eqb (count_of m r) 0) (first_flags m d rs) (first_flags_of m d r)

-- the chunk's duration and its end
unfoldable pub duration_in : List ℕ → Defaults → ℕ
duration_in m d = durations_of m (defaults_in m d) (runs_in m)

unfoldable pub end_of : List ℕ → Defaults → ℕ
end_of m d = start_of m + duration_in m d

-- a sample's flags say sync: non-sync is bit 0x00010000
abbrev pub is_sync : ℕ → Bool
is_sync f = not (has f 0x10000)

-- whether the first sample is sync
unfoldable pub sync_in : List ℕ → Defaults → Bool
sync_in m d = is_sync (first_flags m (defaults_in m d) (runs_in m))

-- a start follows the previous end: it is that end, if there is one
unfoldable pub follows : Option ℕ → ℕ → Bool
follows None start = true
follows (Some e) start = eqb start e

-- 19: not the track's first chunk, and `tfdt` differs from the previous end
unfoldable pub rule19 : List ℕ → Option ℕ → Rule
rule19 m prev = must (follows prev (start_of m)) 19 (tfdt_in m)

-- so many ticks from a start: not 0, and up to 2^63 - 1
abbrev pub lasts : ℕ → ℕ → Bool
lasts start ticks = leb 1 ticks && leb (start + ticks) tick_limit

-- 20: chunk duration 0, or its end over 2^63 - 1
unfoldable pub rule20 : List ℕ → Defaults → Rule
rule20 m d = must (lasts (start_of m) (duration_in m d)) 20 (first_run m)

-- whether a chunk begins a fragment: where its first sample is sync (house); the track's first does in any case
unfoldable pub begins_one : Option ℕ → Bool → Bool
begins_one None sync = true
begins_one (Some e) sync = sync

-- whether 21 lets a chunk stand there, by whether its first sample is sync: the track's first must be, of a later one it is not asked
unfoldable pub opens : Option ℕ → Bool → Bool
opens None sync = sync
opens (Some e) sync = true

-- 21: the track's first chunk, and its first sample is non-sync
unfoldable pub rule21 : List ℕ → Defaults → Option ℕ → Rule
rule21 m d prev = must (opens prev (sync_in m d)) 21 (first_run m)

-- a run's data offset, signed, is the place e
unfoldable pub offset_is : List ℕ → ℕ → ℕ → Bool
offset_is m r e = is_place (signed (field m r 8)) e

-- 22, a run: the first carries an offset, equal to the place e; a later one none, or one equal to it
unfoldable pub placed : Bool → List ℕ → ℕ → ℕ → Bool
placed first m r e = when (has (box_flags m r) 0x1) (offset_is m r e) (not first)

abbrev pub rule22run : List ℕ → Bool → ℕ → ℕ → Rule
rule22run m first e r = must (placed first m r e) 22 r

-- 22, the runs, where the next byte is at the place e after the `moof` start; place: the first wrong run
unfoldable pub rule22runs : List ℕ → Defaults → Bool → ℕ → List ℕ → Rule
rule22runs m d first e [] = Ok tt
rule22runs m d first e (r ∷ rs) = rule22run m first e r then rule22runs m d false (e + run_bytes m d r) rs

-- 22: the runs' bytes begin behind the `mdat` header and tile its payload; place of the last: `mdat`, where `moof` ends
unfoldable pub rule22 : List ℕ → Defaults → ℕ → ℕ → Rule
rule22 m d head payload =
    rule22runs m (defaults_in m d) true (length m + head) (runs_in m)
    then must (eqb (bytes_in m (defaults_in m d) (runs_in m)) payload) 22 (length m)

-- 19 to 22: the chunk's timing
unfoldable pub timing : List ℕ → Defaults → ℕ → ℕ → Option ℕ → Rule
timing m d head payload prev = rule19 m prev then rule20 m d then rule21 m d prev then rule22 m d head payload

-- the mark of this file: its definitions unfold wherever it does
unfoldable pub computed_chunk : Unit {0}
unfolding mfhd_in traf_in tfhd_in tfdt_in first_run runs_in rule14 bytes_for tfhd_size run_head stride count_of run_size rule15runs rule15 rule16runs
    flagged rule16 rule17 samples_of rule18 shape start_of defaults_in sample_at duration_of bytes_of first_flags_of sum_to run_duration run_bytes
    durations_of bytes_in first_flags duration_in end_of sync_in follows rule19 rule20 begins_one opens rule21 offset_is placed rule22runs rule22 timing
computed_chunk = tt
