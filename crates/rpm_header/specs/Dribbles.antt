-- A header with further entries after its own.
use Rattle.std.specs.Prelude.{ℕ, ◌+◌, List, ◌++◌, length}
use Rattle.rpm_header.specs.Header.{Item, Header}
use Rattle.rpm_header.specs.Laid.{data_from, index_from, blob_of}
use Rattle.rpm_header.specs.Parts.{own_index, own_data}

-- the data of the further entries stand after its data, each at the least offset that its form lets it have
abbrev pub dribbled_data : Header → List Item → List ℕ
dribbled_data h more = own_data h ++ data_from (length (own_data h)) more

-- the bytes of the header with its further entries, which stand in the index after its own
unfoldable pub dribbled_blob : Header → List Item → List ℕ
dribbled_blob h more =
    blob_of (length h.entries + length more) (own_index h ++ index_from (length (own_data h)) more)
    (dribbled_data h more)
