-- The mark of marks: a proof by computation says `unfolding computed`, and every definition of the rules unfolds in it.
use Rattle.rules.specs.Rules.{computed_rules}
use Rattle.rules.specs.Boxes.{computed_boxes}
use Rattle.rules.specs.Framing.{computed_framing}
use Rattle.rules.specs.Order.{computed_order}
use Rattle.rules.specs.Counts.{computed_counts}
use Rattle.rules.specs.Fields.{computed_fields}
use Rattle.rules.specs.Header.{computed_header}
use Rattle.rules.specs.Chunk.{computed_chunk}
use Rattle.rules.specs.Track.{computed_track}
use Rattle.rules.specs.Bundle.{computed_bundle}
use Rattle.rules.specs.Set.{computed_set}
use Rattle.rules.specs.Course.{computed_course}
use Rattle.rules.specs.Pieces.{computed_pieces}
use Rattle.rules.specs.Player.{computed_player}
use Rattle.rules.specs.Plans.{computed_plans}
use Rattle.rules.specs.Refusals.{computed_refusals}
use Rattle.rules.specs.Bytes.{computed_bytes}
use Rattle.numbers.specs.Numbers.{computed_numbers}

-- a mark, and no statement
unfoldable pub computed : Unit {0}
unfolding computed_rules computed_boxes computed_framing computed_order computed_counts computed_fields computed_header computed_chunk
    computed_track computed_bundle computed_set computed_course computed_pieces computed_player computed_plans computed_refusals computed_bytes
    computed_numbers
computed = tt
