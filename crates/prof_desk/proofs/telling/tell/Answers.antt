use Rattle.prof_desk.proofs.telling.tell.Goals as goal

pub returns-in-Usage : goal.returns-in-Usage
returns-in-Usage g c = rw c.in-Usage.is c.put_line-in-Usage.ensures

pub returns-in-FileFault : goal.returns-in-FileFault
returns-in-FileFault g c = rw (c.in-FileFault.is, ← c.as_bytes-in-FileFault.ensures.value) c.put_line-in-FileFault.ensures

pub returns-in-KeeperFault : goal.returns-in-KeeperFault
returns-in-KeeperFault g c = rw c.in-KeeperFault.is c.put_line-in-KeeperFault.ensures
