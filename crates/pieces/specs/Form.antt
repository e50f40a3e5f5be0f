-- The contracts of `start`, `feed` and `finish`: what the lent memory comes to if more bytes follow.
use Rattle.std.specs.Prelude.{ℕ, ◌+◌, Bool, true, false, List, [], ◌∷◌, ◌++◌, ◌≡◌, length, get_or}
use Rattle.numbers.specs.Numbers.{when}
use Rattle.rules.specs.Pieces.{answer_for}
use Rattle.rules.specs.declared.Answer.{Answer}
use Rattle.pieces.specs.State.{state_of, sound, comes_to, answer_of, unstarted}

-- the lent memory: its numbers, the bytes of a header, the buffer
pub record Memory : Type 0 where
  pub numbers : List ℕ
  pub head : List ℕ
  pub kept : List ℕ

-- what is answered after a memory if more bytes follow and then no more
unfoldable pub resume : Memory → List ℕ → Answer
resume m more =
    when (sound (state_of m.numbers) m.head m.kept) (answer_of (comes_to (state_of m.numbers) m.head m.kept more)) unstarted

-- a memory is started: whatever follows, the answer is the written rule's for it
abbrev pub Starts : Memory → Type 0
Starts m = (t : List ℕ) → resume m t ≡ answer_for t

-- a piece leads from a memory to another: whatever follows, the answer after the other is that after the one for the piece and what follows
abbrev pub Feeds : Memory → List ℕ → Memory → Type 0
Feeds a piece b = (t : List ℕ) → resume a (piece ++ t) ≡ resume b t

-- an answer after a memory: nothing follows
abbrev pub Finishes : Memory → Answer → Type 0
Finishes m r = r ≡ resume m []

-- pieces that lead, one after the other, from a memory to another
pub data Fed : Memory → List (List ℕ) → Memory → Type 0 where
  no_piece : {a : Memory} → Fed a [] a
  and_piece : {a b c : Memory} {p : List ℕ} {ps : List (List ℕ)} → Feeds a p b → Fed b ps c → Fed a (p ∷ ps) c

-- an answer for pieces: a memory is started, takes them one after the other, and finishes
pub record Taken (pieces : List (List ℕ)) (r : Answer) : Type 0 where
  pub begin : Memory
  pub end : Memory
  pub starts : Starts begin
  pub fed : Fed begin pieces end
  pub finishes : Finishes end r

-- the three by the lent arrays: after `start` whatever the others hold
abbrev pub memory : List ℕ → List ℕ → List ℕ → Memory
memory ns head kept = record { numbers = ns; head = head; kept = kept }

abbrev pub StartsAnyway : List ℕ → Type 0
StartsAnyway ns = (head kept : List ℕ) → Starts (memory ns head kept)

abbrev pub FeedsFrom : List ℕ → List ℕ → List ℕ → List ℕ → List ℕ → List ℕ → List ℕ → Type 0
FeedsFrom ns head kept piece ns' head' kept' = Feeds (memory ns head kept) piece (memory ns' head' kept')

abbrev pub FinishesFrom : List ℕ → List ℕ → List ℕ → Answer → Type 0
FinishesFrom ns head kept r = Finishes (memory ns head kept) r

-- a piece is taken by a quick way, or the memory stays as it is
abbrev pub QuickFrom : Bool → List ℕ → List ℕ → List ℕ → List ℕ → List ℕ → List ℕ → List ℕ → Type 0
QuickFrom true ns head kept piece ns' head' kept' = FeedsFrom ns head kept piece ns' head' kept'
QuickFrom false ns head kept piece ns' head' kept' = (ns' ≡ ns) × (head' ≡ head) × (kept' ≡ kept)

-- the same where only the numbers can change, the header's bytes beside them, or the buffer
abbrev pub QuickPassed : Bool → List ℕ → List ℕ → List ℕ → Type 0
QuickPassed r ns piece ns' = (head kept : List ℕ) → QuickFrom r ns head kept piece ns' head kept

abbrev pub QuickHeaded : Bool → List ℕ → List ℕ → List ℕ → List ℕ → List ℕ → Type 0
QuickHeaded r ns head piece ns' head' = (kept : List ℕ) → QuickFrom r ns head kept piece ns' head' kept

abbrev pub QuickKept : Bool → List ℕ → List ℕ → List ℕ → List ℕ → List ℕ → Type 0
QuickKept r ns kept piece ns' kept' = (head : List ℕ) → QuickFrom r ns head kept piece ns' head kept'

-- the rest of the memory stays as it is and is not asked for: in the phase of a box that passes by only the numbers change, whatever the header's bytes and
-- the buffer are (no byte of a piece is kept); in that of a gathered box the buffer beside them, whatever the header's bytes are; in that of a header's
-- first 8 bytes these, whatever the buffer is
abbrev pub QuickAside : Bool → List ℕ → List ℕ → List ℕ → List ℕ → List ℕ → List ℕ → List ℕ → Type 0
QuickAside r ns head kept piece ns' head' kept' =
    (get_or ns 0 0 ≡ 3 → QuickPassed r ns piece ns' × (head' ≡ head) × (kept' ≡ kept))
    × (get_or ns 0 0 ≡ 2 → QuickKept r ns kept piece ns' kept' × (head' ≡ head))
    × (get_or ns 0 0 ≡ 1 → QuickHeaded r ns head piece ns' head' × (kept' ≡ kept))

-- numbers in the phase of a number, and the bytes so far with a piece's
pub record Amid (tag : ℕ) (ns piece : List ℕ) (total : ℕ) : Type 0 where
  pub phase : get_or ns 0 0 ≡ tag
  pub sum : total ≡ get_or ns 3 0 + length piece
