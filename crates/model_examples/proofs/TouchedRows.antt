-- The rows that an order of a name touches: the name is read once.
use Rattle.std.specs.Prelude.{◌≡◌, ℕ, ◌==◌, ◌&&◌, ◌||◌, Bool, List, [], ◌∷◌, Option, Some, codes, refl}
use Rattle.std.specs.List.{filter, list_any}
use Rattle.std.proofs.Common.{ap}
use Rattle.desk_model.specs.Touched.{is_first_authorization, is_named_account, is_touched_nonce, is_touched_order, lists}
use Rattle.desk_model.specs.{Asked.asked_names, Lookup.holds, Tables.Tables, Names.name_of, Name.Name, Name.same_name, declared.call.Ask.Ask}
use Rattle.desk_model.specs.{declared.call.Call.Call, declared.rows.AuthorizationRow.AuthorizationRow}
use Rattle.desk_model.specs.declared.call.Target.TheVariants as to
use Rattle.model_examples.proofs.{PlainNames.plain_name, Computing.computing}
use Rattle.model_examples.specs.{Calls.request, Calls.simple, TouchedRows.client_rows, TouchedRows.numbers_in, TouchedRows.NewOrder}

-- the name that is asked for
f_example : name_of (codes "f.example") ≡ Some (simple (codes "f.example"))
f_example = plain_name _ refl

-- the order of it
abbrev ordering : Call
ordering = request to.NewOrder (codes "{\"identifiers\":[{\"type\":\"dns\",\"value\":\"f.example\"}]}")

-- the authorizations that a call touches which asks for these names
abbrev touches_with : Tables → ℕ → Ask → Option (List Name) → AuthorizationRow → Bool
touches_with T m a names r =
    is_first_authorization T m a r
    || (list_any (λ o. is_touched_order T m a o && lists o r.number) T.orders
    || (holds (list_any (same_name r.name)) names && list_any (λ x. is_named_account a x && (r.account == x.number)) T.accounts))

-- the rows
abbrev touched_with : Tables → ℕ → Ask → Option (List Name) → Tables
touched_with T m a names =
    record {
      meta = T.meta;
      nonces = filter (is_touched_nonce T m a) T.nonces;
      accounts = filter (λ x. is_named_account a x
          || (list_any (λ o. is_touched_order T m a o && (o.account == x.number)) T.orders
          || list_any (λ r. touches_with T m a names r && (r.account == x.number)) T.authorizations)) T.accounts;
      authorizations = filter (touches_with T m a names) T.authorizations;
      orders = filter (is_touched_order T m a) T.orders;
    }

-- it asks for the name
asks : asked_names ordering.ask ≡ Some (simple (codes "f.example") ∷ [])
unfolding computing
asks = simp (f_example)

-- newOrder touches the account and the nonce, and no order
pub new_order : NewOrder
unfolding computing
new_order = ap (λ names. numbers_in (touched_with client_rows 0 ordering.ask names)) asks
