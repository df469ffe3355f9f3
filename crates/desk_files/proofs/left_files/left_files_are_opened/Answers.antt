use Rattle.desk_files.proofs.Finding.{first_files_are_opened, found_files_are_opened, upgraded_files_are_found}
use Rattle.desk_files.proofs.left_files.left_files_are_opened.Goals as goal

pub returns-clause-upgraded : goal.returns-clause-upgraded
returns-clause-upgraded g c = upgraded_files_are_found

pub returns-clause-opened : goal.returns-clause-opened
returns-clause-opened g c = found_files_are_opened

pub returns-clause-first : goal.returns-clause-first
returns-clause-first g c = first_files_are_opened
