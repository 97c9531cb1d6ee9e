-- A record as a host lends it.
use Rattle.machine.specs.declared.records.Record.{Record}

-- zeros, to the last byte
abbrev pub blank_record : Record
blank_record =
    record { kind = 0; over = 0; limit = 0; step = 0; spare = 0; slot = 0; line = 0; at = 0; ending = 0; close = 0 }
