mod Berthing
