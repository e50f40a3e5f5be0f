-- What is put into a buffer.
use Rattle.std.specs.Prelude.{ℕ, ◌+◌, ◌≤◌, ◌≡◌, List, ◌++◌, length, take, drop}
use Rattle.std.proofs.lemmas.List.Edits.{sets}

-- the buffer l, with xs put from a place on, is m, and n is the place behind xs
pub record Put (l : List ℕ) (at : ℕ) (xs : List ℕ) (n : ℕ) (m : List ℕ) : Type 0 where
  pub next : n ≡ at + length xs
  pub now_is : m ≡ sets l at xs

-- the buffer l with a line of n bytes at its start, and unchanged behind it, is m
pub record Line (line l : List ℕ) (n : ℕ) (m : List ℕ) : Type 0 where
  pub size : n ≡ length line
  pub starts : m ≡ line ++ drop (length line) l
  -- both follow: stated so that `&out[..n]` asks no proof of a caller
  pub within : n ≤ length m
  pub front : n ≡ length (take n m)
