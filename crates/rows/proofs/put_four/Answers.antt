use Rattle.rows.proofs.Beside.{four_1, four_2, four_3, four_4, four_made}
use Rattle.rows.proofs.put_four.Goals as goal

pub put-requires : goal.put-requires
put-requires g c = four_1 c.requires

pub put-requires-2 : goal.put-requires-2
put-requires-2 g c = four_2 c.requires c.put.ensures

pub put-requires-3 : goal.put-requires-3
put-requires-3 g c = four_3 c.requires c.put.ensures c.put-2.ensures

pub put-requires-4 : goal.put-requires-4
put-requires-4 g c = four_4 c.requires c.put.ensures c.put-2.ensures c.put-3.ensures

pub returns : goal.returns
returns g c = four_made c.requires c.put.ensures c.put-2.ensures c.put-3.ensures c.put-4.ensures
