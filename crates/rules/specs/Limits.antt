-- The limits of documents 01 and 02, each by its name.
use Rattle.std.specs.Prelude.{ℕ}

-- rule 1: the bytes of a slice
abbrev pub byte_limit : ℕ
byte_limit = 1073741824

-- rule 5: the boxes of a slice (house; request 4)
abbrev pub box_limit : ℕ
box_limit = 65536

-- rule 18: the samples of a chunk (house)
abbrev pub sample_limit : ℕ
sample_limit = 65536

-- rule 20: the last tick, 2^63 - 1 (house)
abbrev pub tick_limit : ℕ
tick_limit = 9223372036854775807

-- rule 24: the records of a bundle
abbrev pub record_limit : ℕ
record_limit = 16

-- rule 29: the bytes that a `ftyp`, `moov` or `moof` of a track in pieces may declare
abbrev pub gather_limit : ℕ
gather_limit = 32768
