-- The book as the code has it.
use Rattle.std.specs.Prelude.{map}
use Rattle.net_model.specs.Rows.{plain_circuit}
use Rattle.view_page.specs.Page.{Book as PlainBook, book}
use Rattle.view_page.specs.declared.page.Book.{Book}

abbrev pub book_of : Book → PlainBook
book_of b = book b.unit b.names.now (map plain_circuit b.lefts.now)
    (map plain_circuit b.rights.now) b.places.now
