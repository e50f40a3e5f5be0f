-- What is put behind a text.
use Rattle.std.specs.Prelude.{ℕ, ◌≡◌, List, length}
use Rattle.lines.specs.Puts.{Put}
use Rattle.lines.specs.declared.Text.{Text}

-- the text s with xs put behind it, in the same lent buffer, is t
pub record Puts (s : Text) (xs : List ℕ) (t : Text) : Type 0 where
  pub same : t.buffer.ghost_name ≡ s.buffer.ghost_name
  pub put : Put s.buffer.now s.len xs t.len t.buffer.now
  -- it follows: stated so that the next bytes ask no proof that the room is the same
  pub room : length t.buffer.now ≡ length s.buffer.now
