-- What a call asks, behind what was read in its nonce and its payload.
use Rattle.desk_model.specs.declared.call.Ask.{Ask}
use Rattle.desk_model.specs.declared.call.Ask.TheVariants as ask
use Rattle.identifiers.specs.declared.parsed.ParsedAsk.{ParsedAsk}
use Rattle.identifiers.specs.declared.parsed.ParsedAsk.TheVariants as parsed

abbrev pub ask_of : ParsedAsk → Ask
ask_of (parsed.NewNonce head) = ask.NewNonce head
ask_of (parsed.Signed request) = ask.Signed request
ask_of (parsed.Office asked) = ask.Office asked.now
