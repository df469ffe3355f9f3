-- What a desk's tables are to a file.
use Rattle.std.proofs.Common.{◌≡◌, Result, Ok, Err, subst}
use Rattle.std.specs.Prelude.{IsTrue, OnOk}
use Rattle.sqlite.specs.{Effect.Database, State.State, Store.Ghosts, Held.Held, Held.state}
use Rattle.desk_model.specs.Tables.{Tables}
use Rattle.sql_read.specs.Failures.{MayRead}
use Rattle.sql_read.proofs.ShownRows.{shown_before}
use Rattle.sql_schema.specs.Names.{has_all_indexes}
use Rattle.desk_store.specs.{Desks.HasDesk, Desks.PicturesAreDesks, Opening.IsWhole}
use Rattle.model_laws.specs.Ordered.{IsOrdered}
use Rattle.store_book.specs.IsBook.{IsBook}
use Rattle.store_laws.proofs.FlatTexts.{picture_is_stored_book}

-- the tables of a legal history are a desk's
pub pictures_are_desks : PicturesAreDesks
pictures_are_desks db F legal holds = record { holds = holds; book = picture_is_stored_book F legal }

-- a book stands by number
pub book_ordered : (T : Tables) → IsBook T → IsOrdered T
book_ordered T book = record {
  nonces = (book.in_order.nonces, book.sound.counters.nonces);
  accounts = (book.in_order.accounts, book.sound.counters.accounts);
  authorizations = (book.in_order.authorizations, book.sound.counters.authorizations);
  orders = (book.in_order.orders, book.sound.counters.orders);
}

-- it may be read
pub may_read : (s : State) (T : Tables) → HasDesk s T → MayRead s
may_read s T has = record { is_open = has.is_open; unlimited = has.unlimited }

-- that all is whole was so before calls that changed nothing
pub whole_still : {S : Type 0} (g : Ghosts S) (old mid : Held S) → (state g mid).now ≡ (state g old).now → IsWhole g mid → IsWhole g old
whole_still g old mid same whole = record {
  indexes = subst (λ (db : Database). IsTrue (has_all_indexes db.schema)) same whole.indexes;
  book = whole.book;
  shows = record { stored = whole.shows.stored; shown = shown_before g old mid whole.shows.stored same whole.shows.shown; is_book = whole.shows.is_book };
}

-- what is so anyhow
pub always_ok : {R E P : Type 0} (result : Result R E) → P → OnOk result P
always_ok (Ok done) p = p
always_ok (Err why) p = tt
