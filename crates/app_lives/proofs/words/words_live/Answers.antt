use Rattle.app_lives.proofs.{Going.words_go_on, Leaving.words_leave}
use Rattle.app_lives.proofs.words.words_live.Goals as goal

pub returns-clause-left : goal.returns-clause-left
returns-clause-left g c = words_leave g.D.Disk

pub returns-clause-again : goal.returns-clause-again
returns-clause-again g c = words_go_on g.D.Disk
