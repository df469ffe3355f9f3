use Rattle.desk_http.proofs.showing.show.Goals as goal
use Rattle.desk_http.specs.Showing.{begun, begun}

pub returns-in-Ok-clause-shows : goal.returns-in-Ok-clause-shows
returns-in-Ok-clause-shows g c =
    begun (g.W.Write.contents c.write_head.new.writer) (rw c.kind.ensures at c.in-Ok.ensures.took) c.show_behind.ensures.shows
