use Rattle.std.proofs.Common.{◌≡◌, drop}
use Rattle.desk_model.specs.Contact.{first_fault}
use Rattle.core_rules.proofs.accounts.contacts_refusal.Given as goal

abbrev pub invariant-loop-contact : goal.invariant-loop-contact
invariant-loop-contact l = first_fault l.contacts ≡ first_fault (drop l.contact-index l.contacts)
