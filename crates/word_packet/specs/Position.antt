-- Where the data of a block begins in each part of a packet of a film with true colour (document 02, W7), as code holds it.
-- Assumes nothing.
use Rattle.packet.specs.Packet.{position}
use Rattle.packet.specs.Packet as packet
use Rattle.word_packet.specs.declared.Position.{Position}

abbrev pub placed : Position → packet.Position
placed a = position a.bytes a.offsets
