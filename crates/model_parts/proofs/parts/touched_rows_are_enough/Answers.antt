use Rattle.model_parts.proofs.{Answering.pictures_stated, Cut.touched_part, Between.parts_answer, Loading.loaded_touched, Enough.parts_ordered}
use Rattle.model_parts.proofs.{Enough.whole_part, Work.enough_ordered, Work.minimal_enough, Work.part_enough}
use Rattle.model_parts.proofs.parts.touched_rows_are_enough.Goals as goal

pub returns : goal.returns
returns c =
    record {
      loaded = loaded_touched;
      touched = touched_part;
      whole = whole_part;
      ordered = parts_ordered;
      answer = parts_answer;
      parts = part_enough;
      minimal = minimal_enough;
      stated = pictures_stated;
      enough = enough_ordered;
    }
